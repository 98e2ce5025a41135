-- Whose an issuer, a seat and a hardware address are.
use Rattle.std.specs.Prelude.{◌≡◌, true, false, ℕ, List, [], find, Option, Some, is_some, option_map, Bool, bytes_eq, Any}
use Rattle.std.specs.List.{list_any, AllByRecursion}
use Rattle.std.specs.Option.{option_map_or}
use Rattle.id_ranges.specs.Prelude.{Pool, IsBlockWithin, IsApart}
use Rattle.site_core.specs.Section.{Section, SiteValue}

-- who is a customer, the customer of an issuer, the customer of a seat, and a customer's pools
pub record Ownership : Type 0 where
  pub customer : List ℕ → Bool
  pub issuer : List ℕ → Option (List ℕ)
  pub seat : List ℕ → Option (List ℕ)
  pub pools : List ℕ → List Pool

-- the seat is one of this customer's
abbrev pub has_seat : List ℕ → Section → Bool
has_seat seat s = list_any (λ own. bytes_eq seat own.name) s.seats

-- whose issuers, seats and pools are, by a site
abbrev pub ownership_of : SiteValue → Ownership
ownership_of site = record {
  customer = λ customer. is_some (find (λ s. bytes_eq customer s.name) site.customers);
  issuer = λ issuer. option_map (λ s. s.name) (find (λ s. list_any (bytes_eq issuer) s.issuers) site.customers);
  seat = λ seat. option_map (λ s. s.name) (find (has_seat seat) site.customers);
  pools = λ customer. option_map_or (λ s. s.pools) (find (λ s. bytes_eq customer s.name) site.customers) [];
}

-- the issuers, the seats and the pools of a section are its customer's
pub record IsSection (owners : Ownership) (s : Section) : Type 0 where
  pub customer : owners.customer s.name ≡ true
  pub issuers : AllByRecursion (λ issuer. owners.issuer issuer ≡ Some s.name) s.issuers
  pub seats : AllByRecursion (λ seat. owners.seat seat.name ≡ Some s.name) s.seats
  pub pools : owners.pools s.name ≡ s.pools

-- no address lies within pools of two customers
abbrev pub PoolsDisjoint : Ownership → Type 0
PoolsDisjoint owners = (one other : List ℕ) → bytes_eq one other ≡ false → (a b : ℕ × ℕ)
    → Any (IsBlockWithin a) (owners.pools one) → Any (IsBlockWithin b) (owners.pools other) → IsApart a b

-- what was a customer's stays the customer's
pub record OwnershipGrows (old new : Ownership) : Type 0 where
  pub customers : (customer : List ℕ) → old.customer customer ≡ true → new.customer customer ≡ true
  pub issuers : (issuer customer : List ℕ) → old.issuer issuer ≡ Some customer → new.issuer issuer ≡ Some customer
  pub seats : (seat customer : List ℕ) → old.seat seat ≡ Some customer → new.seat seat ≡ Some customer
  pub pools : (customer : List ℕ) (block : ℕ × ℕ) → Any (IsBlockWithin block) (old.pools customer) → Any (IsBlockWithin block) (new.pools customer)
