-- The site that a file describes, or why there is none.
use Rattle.std.specs.Prelude.{◌≡◌, ℕ, List, Result, IfOk}
use Rattle.std.specs.Borrow.{Bor}
use Rattle.sha2.specs.Sha256.{sha256}
use Rattle.text_core.specs.Prelude.{GivesUnless, result_and_then, result_map}
use Rattle.site_core.specs.Prelude.{SiteValue, TextOfSite, site_fault_number, site_read, site_text_limit}
use Rattle.site_core.specs.declared.fault.SiteFault.{SiteFault}
use Rattle.site_core.specs.declared.fault.SiteFault.TheVariants.{OverLimit}
use Rattle.station_cli.specs.FileText.{or_failure, text_of_file}
use Rattle.station_cli.specs.declared.failure.Failure.{Failure}
use Rattle.station_cli.specs.declared.failure.Failure.TheVariants.{NoMemory}

-- the failure that a fault of a site's text is
abbrev pub site_failure : SiteFault → Failure
site_failure SiteFault.OutOfMemory = NoMemory
site_failure fault = Failure.SiteFault (site_fault_number fault)

-- the site in the bytes of a file, or the failure that its text's fault is. Bytes over the limit have the fault of that
abbrev pub site_in : Bor (List ℕ) → List ℕ → Result SiteValue Failure
site_in name bytes =
    result_and_then (λ text. or_failure site_failure (site_read text)) (text_of_file name bytes site_text_limit (site_failure OverLimit))

-- the bytes of a site's file, with the site that they describe
abbrev pub text_of_site : List ℕ → SiteValue → TextOfSite
text_of_site bytes site = record { text = bytes; site = site; digest = sha256 bytes }

-- what reading the bytes of a site's file came to, want of memory aside: the site that they describe with its text, or the
-- failure that the text's fault is
pub record IsSiteOfFile (name : Bor (List ℕ)) (bytes : List ℕ) (result : Result TextOfSite Failure) : Type 0 where
  pub described : GivesUnless NoMemory (result_map (λ t. t.site) result) (site_in name bytes)
  pub text : IfOk result (λ t. t ≡ text_of_site bytes t.site)
