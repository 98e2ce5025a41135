-- What holds of each site.
use Rattle.std.specs.Prelude.{◌≡◌, Bool, false, ◌||◌, nat_lt, length, bytes_eq}
use Rattle.std.specs.List.{IsDistinct, list_any, AllByRecursion}
use Rattle.id_ranges.specs.Prelude.{Pool, IsPool, blocks_overlap}
use Rattle.site_core.specs.Section.{Section, SiteValue, names_of, issuers_of, pools_of, seat_names_of, tokens_of}

-- two pools have an address in common
abbrev pub pools_meet : Pool → Pool → Bool
pools_meet a b = blocks_overlap (a.first, a.count) (b.first, b.count)

-- a customer has more than 64 seats, 8 issuers or 16 pools
abbrev pub is_section_over : Section → Bool
is_section_over s = nat_lt 64 (length s.seats) || nat_lt 8 (length s.issuers) || nat_lt 16 (length s.pools)

-- the site has more than 64 customers, or a customer has more of something than can be
abbrev pub is_over_limit : SiteValue → Bool
is_over_limit site = nat_lt 64 (length site.customers) || list_any is_section_over site.customers

-- over the whole site no customer, issuer, seat or token comes twice, and no address lies in two pools
pub record IsSite (site : SiteValue) : Type 0 where
  pub names : IsDistinct bytes_eq (names_of site)
  pub issuers : IsDistinct bytes_eq (issuers_of site)
  pub seats : IsDistinct bytes_eq (seat_names_of site)
  pub tokens : IsDistinct bytes_eq (tokens_of site)
  pub apart : IsDistinct pools_meet (pools_of site)
  pub pools : AllByRecursion IsPool (pools_of site)
  pub within : is_over_limit site ≡ false
