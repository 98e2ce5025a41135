-- The faults of a site's text.
use Rattle.std.specs.Prelude.{◌≡◌, ◌<◌, ℕ, AllPairs, Bool, false, not, ◌||◌, List, [], ◌∷◌, Result, Ok, Err, bytes_eq, if◌then◌else◌, flat_map}
use Rattle.std.specs.List.{IsDistinct, AllByRecursion, list_any}
use Rattle.id_ranges.specs.Prelude.{IsApart, Pool, IsPool, is_pool}
use Rattle.members.specs.declared.DocumentFault.{DocumentFault}
use Rattle.members.specs.declared.DocumentFault.TheVariants as document
use Rattle.site_core.specs.Section.{Section, SiteValue, names_of, issuers_of, pools_of, seat_names_of, tokens_of}
use Rattle.site_core.specs.Site.{pools_meet, is_over_limit}
use Rattle.site_core.specs.declared.fault.SiteFault.{SiteFault}
use Rattle.site_core.specs.declared.fault.SiteFault.TheVariants.{NotToml, BadMember, Repeated, PoolsMeet, BadPool, OverLimit, OutOfMemory}

-- the number of a fault
abbrev pub site_fault_number : SiteFault → ℕ
site_fault_number NotToml = 1
site_fault_number BadMember = 2
site_fault_number Repeated = 3
site_fault_number PoolsMeet = 4
site_fault_number BadPool = 5
site_fault_number OverLimit = 6
site_fault_number OutOfMemory = 7

-- the fault of a text that has no document
abbrev pub site_fault_of_document : DocumentFault → SiteFault
site_fault_of_document document.NotDocument = NotToml
site_fault_of_document document.OutOfMemory = OutOfMemory

-- an element goes with one after it
abbrev pub has_pair : {A : Type 0} → (A → A → Bool) → List A → Bool
has_pair goes_with [] = false
has_pair goes_with (x ∷ xs) = list_any (goes_with x) xs || has_pair goes_with xs

-- a customer, an issuer, a seat or a token comes twice
abbrev pub has_repeat : SiteValue → Bool
has_repeat site =
    has_pair bytes_eq (names_of site) || has_pair bytes_eq (issuers_of site) || has_pair bytes_eq (seat_names_of site) || has_pair bytes_eq (tokens_of site)

-- the pool has a group address, or one of more than 48 bits
abbrev pub is_bad_pool : Pool → Bool
is_bad_pool p = not (is_pool p.first p.count)

-- a customer has such a pool
abbrev pub has_bad_pool : List Section → Bool
has_bad_pool customers = list_any is_bad_pool (flat_map (λ s. s.pools) customers)

-- no customer, issuer, seat or token comes twice over the whole site
pub record HasNoRepeat (site : SiteValue) : Type 0 where
  pub customers : IsDistinct bytes_eq (names_of site)
  pub issuers : IsDistinct bytes_eq (issuers_of site)
  pub seats : IsDistinct bytes_eq (seat_names_of site)
  pub tokens : IsDistinct bytes_eq (tokens_of site)

-- no address lies in both pools
abbrev pub ArePoolsApart : Pool → Pool → Type 0
ArePoolsApart p q = IsApart (p.first, p.count) (q.first, q.count)

-- the rule that a fault is of: nothing comes twice, no address lies in two pools, each pool can be one, the limits are kept
abbrev pub KeepsSiteRule : SiteFault → SiteValue → Type 0
KeepsSiteRule NotToml site = Unit {0}
KeepsSiteRule BadMember site = Unit {0}
KeepsSiteRule Repeated site = HasNoRepeat site
KeepsSiteRule PoolsMeet site = AllPairs ArePoolsApart (pools_of site)
KeepsSiteRule BadPool site = AllByRecursion IsPool (pools_of site)
KeepsSiteRule OverLimit site = is_over_limit site ≡ false
KeepsSiteRule OutOfMemory site = Unit {0}

-- the site breaks the rule of this fault, and keeps that of each fault with a lower number
pub record IsLowestSiteFault (fault : SiteFault) (site : SiteValue) : Type 0 where
  pub broken : ¬ KeepsSiteRule fault site
  pub lower : (other : SiteFault) → site_fault_number other < site_fault_number fault → KeepsSiteRule other site

-- the site, or the lowest fault of how its parts fit together
abbrev pub site_or_fault : SiteValue → Result SiteValue SiteFault
site_or_fault site =
    if has_repeat site then Err Repeated
    else if has_pair pools_meet (pools_of site) then Err PoolsMeet
    else if has_bad_pool site.customers then Err BadPool
    else if is_over_limit site then Err OverLimit
    else Ok site
