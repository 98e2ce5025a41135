-- The site that a text is, by its definition and by its relation.
use Rattle.std.proofs.Common.{◌≡◌, ◌≢◌, ◌∙◌, ℕ, List, Some, Result, Ok, IfOk, IfErr, sym}
use Rattle.toml.specs.Data.{Data}
use Rattle.text_core.specs.Prelude.{GivesUnless}
use Rattle.members.proofs.Reading as reading
use Rattle.site_core.specs.Prelude.{SiteValue, IsSite, site_or_fault, IsLowestSiteFault, HasSiteMembers, IsSiteText, site_of, site_read, site_text_limit}
use Rattle.site_core.specs.declared.fault.SiteFault.{SiteFault}
use Rattle.site_core.specs.declared.fault.SiteFault.TheVariants.{NotToml, BadMember, OverLimit, OutOfMemory}
use Rattle.site_core.proofs.Judged.{IsSite-from_judged, same-from_judged, site_or_fault-from_IsSite}
use Rattle.site_core.proofs.Broken.{IsLowestSiteFault-from_judged}

read_of_members : (text : List ℕ) (site : SiteValue) → HasSiteMembers text site
    → site_read text ≡ site_or_fault site
read_of_members text site has =
    reading.judged_of_members site_of site_or_fault NotToml BadMember OverLimit site_text_limit text site
    has.within has.members

-- what is read is the text's site
pub IsSiteText-from_read : (text : List ℕ) (site : SiteValue) → site_read text ≡ Ok site
    → IsSiteText text site
IsSiteText-from_read text site e =
    let known =
    reading.text_is site_of site_or_fault NotToml BadMember OverLimit site_text_limit IsSite good text site e in
    record { within = known.0; members = known.1; is_site = known.2 }
  where
    good : (d : Data) (found site : SiteValue) → site_of d ≡ Some found
        → site_or_fault found ≡ Ok site → (found ≡ site) × IsSite site
    good d found site is e = (same-from_judged found site e, IsSite-from_judged found site e)

-- the text's site is read
pub read-from_IsSiteText : (text : List ℕ) (site : SiteValue) → IsSiteText text site
    → site_read text ≡ Ok site
read-from_IsSiteText text site is =
    read_of_members text site (record { within = is.within; members = is.members })
    ∙ site_or_fault-from_IsSite site is.is_site

module _ (text : List ℕ) (answer : Result SiteValue SiteFault)
    (exact : GivesUnless OutOfMemory answer (site_read text)) where
  -- an answer is the text's site
  pub valid_from_exact : IfOk answer (IsSiteText text)
  valid_from_exact = reading.valid_from_exact OutOfMemory (site_read text) answer exact
      (IsSiteText text) (IsSiteText-from_read text)

  -- where a fault is answered the text has no site
  pub refused_from_exact : IfErr answer (λ fault.
      fault ≢ OutOfMemory → (site : SiteValue) → ¬ IsSiteText text site)
  refused_from_exact = reading.refused_from_exact OutOfMemory (site_read text) answer exact
      (IsSiteText text) (read-from_IsSiteText text)

  -- a fault that is answered is that of a broken rule, and no lower rule is broken
  pub lowest_from_exact : IfErr answer (λ fault.
      fault ≢ OutOfMemory → (site : SiteValue) → HasSiteMembers text site
      → IsLowestSiteFault fault site)
  lowest_from_exact = reading.lowest_from_exact OutOfMemory (site_read text) answer exact
      (HasSiteMembers text) IsLowestSiteFault (λ site has fault e.
      IsLowestSiteFault-from_judged site fault (sym (read_of_members text site has) ∙ e))
