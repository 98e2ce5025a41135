-- Growth of a site: a new site may add to an old one, and takes nothing away.
use Rattle.std.specs.Prelude.{◌≡◌, ◌==◌, Bool, ◌&&◌, List, ◌++◌, All, Any, Contains, IfSome, Some, bytes_eq}
use Rattle.std.specs.List.{list_all, list_any, starts_with}
use Rattle.id_ranges.specs.Prelude.{Pool}
use Rattle.site_core.specs.Section.{SeatOf, Section, SiteValue}

-- the customer keeps the name, the issuers, the seats with their tokens, and the pools in front of any others
pub record KeepsSection (old new : Section) : Type 0 where
  pub name : new.name ≡ old.name
  pub issuers : All (Contains new.issuers) old.issuers
  pub seats : All (Contains new.seats) old.seats
  pub pools : (more : List Pool) × (new.pools ≡ old.pools ++ more)

-- each customer of the old site is kept, and its manager has the same token
pub record IsGrowth (old new : SiteValue) : Type 0 where
  pub customers : All (λ s. Any (KeepsSection s) new.customers) old.customers
  pub manager : IfSome old.manager (λ token. new.manager ≡ Some token)

-- the seats have one name and one token
abbrev pub is_same_seat : SeatOf → SeatOf → Bool
is_same_seat seat other = bytes_eq seat.name other.name && bytes_eq seat.token other.token

-- pools of the same addresses
abbrev pub is_same_pool : Pool → Pool → Bool
is_same_pool pool other = (pool.first == other.first) && (pool.count == other.count)

-- whether the customer keeps all of that
abbrev pub keeps : Section → Section → Bool
keeps old new =
    bytes_eq old.name new.name
    && list_all (λ issuer. list_any (bytes_eq issuer) new.issuers) old.issuers
    && list_all (λ seat. list_any (is_same_seat seat) new.seats) old.seats
    && starts_with is_same_pool new.pools old.pools

-- whether each customer is kept by one of the others
abbrev pub are_kept : List Section → List Section → Bool
are_kept old new = list_all (λ s. list_any (keeps s) new) old
