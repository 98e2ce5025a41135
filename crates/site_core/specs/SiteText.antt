-- The site that a text is.
use Rattle.std.specs.Prelude.{◌≡◌, ℕ, ◌≤◌, nat_lt, List, [], length, codes, Option, Some, Result, Err, if◌then◌else◌, ok_or}
use Rattle.std.specs.Option.{option_map_or}
use Rattle.toml.specs.Data.{Data, as_str, get}
use Rattle.id_ranges.specs.Prelude.{mac_of_text, Pool}
use Rattle.text_core.specs.Prelude.{result_and_then, ◌>>=◌, all_of, digest_of_text}
use Rattle.members.specs.Prelude.{document_of, if_there, items_in, name_in, whole_within}
use Rattle.site_core.specs.Section.{SeatOf, Section, SiteValue}
use Rattle.site_core.specs.Site.{IsSite}
use Rattle.site_core.specs.SiteFaults.{site_or_fault}
use Rattle.site_core.specs.declared.fault.SiteFault.{SiteFault}
use Rattle.site_core.specs.declared.fault.SiteFault.TheVariants.{NotToml, BadMember, OverLimit}

-- a pool, whatever its addresses
unfoldable pub pool_in : Data → Option Pool
pool_in d = do
  first ← get (codes "first") d >>= as_str >>= mac_of_text
  count ← get (codes "count") d >>= whole_within 1 16777216
  Some (record { first = first; count = count })

-- the digest of a token
abbrev pub token_in : Data → Option (List ℕ)
token_in d = get (codes "token") d >>= as_str >>= digest_of_text

-- a seat
unfoldable pub seat_of_data : Data → Option SeatOf
seat_of_data d = do
  name ← get (codes "name") d >>= name_in
  token ← token_in d
  Some (record { name = name; token = token })

-- a customer
unfoldable pub customer_in : Data → Option Section
customer_in d = do
  name ← get (codes "name") d >>= name_in
  issuer_items ← get (codes "issuer") d >>= items_in
  issuers ← all_of name_in issuer_items
  pool_items ← option_map_or items_in (get (codes "pool") d) (Some [])
  pools ← all_of pool_in pool_items
  seat_items ← option_map_or items_in (get (codes "seat") d) (Some [])
  seats ← all_of seat_of_data seat_items
  Some (record { name = name; issuers = issuers; pools = pools; seats = seats })

-- the digest of the manager's token, where the document names one
abbrev pub manager_in : Data → Option (Option (List ℕ))
manager_in d = if_there token_in (get (codes "manager") d)

-- the site of a document whose named members are of their types and ranges
unfoldable pub site_of : Data → Option SiteValue
site_of d = do
  items ← get (codes "customer") d >>= items_in
  customers ← all_of customer_in items
  manager ← manager_in d
  Some (record { customers = customers; manager = manager })

-- the most bytes of a site's text, 2^20
abbrev pub site_text_limit : ℕ
site_text_limit = 1048576

-- the text is a TOML document within the limit whose named members are the site's
pub record HasSiteMembers (text : List ℕ) (site : SiteValue) : Type 0 where
  pub within : length text ≤ site_text_limit
  pub members : (document_of text >>= site_of) ≡ Some site

-- the text is such a document, and the site is one
pub record IsSiteText (text : List ℕ) (site : SiteValue) : Type 0 where
  pub within : length text ≤ site_text_limit
  pub members : (document_of text >>= site_of) ≡ Some site
  pub is_site : IsSite site

-- the site that a text is, or its lowest fault
abbrev pub site_read : List ℕ → Result SiteValue SiteFault
site_read text =
    if nat_lt site_text_limit (length text) then Err OverLimit
    else result_and_then (λ d. result_and_then site_or_fault (ok_or (site_of d) BadMember)) (ok_or (document_of text) NotToml)

-- a text, the site that it is, and the SHA-256 of its bytes
pub record TextOfSite : Type 0 where
  pub text : List ℕ
  pub site : SiteValue
  pub digest : List ℕ
