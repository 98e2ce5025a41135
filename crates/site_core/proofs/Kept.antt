-- What was a customer's in a site stays the customer's in one that grew from it.
use Rattle.std.proofs.Common.{◌≡◌, ◌<◌, ◌++◌}
use Rattle.text_core.proofs.Kit.{ℕ, List, length, Bool, true, Option, Some, None, refl, sym, subst, ap, ◌∙◌, bytes_eq, Any, Contains, find, is_some, option_map}
use Rattle.text_core.proofs.Kit.{list_any, get_or_read, All-contains, Contains-append_left, Any-from_list_any, Contains-from_any, bytes_eq-Decides, find-passes}
use Rattle.id_ranges.specs.Prelude.{IsBlockWithin, Pool}
use Rattle.site_core.specs.Prelude.{no_section, section_in, IsGrowth, KeepsSection, OwnershipGrows, has_seat, ownership_of, SeatOf, Section, SiteValue, IsSite}
use Rattle.site_core.proofs.Owners.{IsDistinct-by_key, find-of_key, find-of_name, place_of_found, pool_of_found}

-- a customer is kept at a place
record IsKeptIn (s : Section) (customers : List Section) : Type 0 where
  place : ℕ
  low : place < length customers
  keeps : KeepsSection s (section_in customers place)

-- a customer that is found in the old site is kept in the new one
kept_of_found : (old new : SiteValue) (test : Section → Bool) (s : Section) → IsGrowth old new → find test old.customers ≡ Some s → IsKeptIn s new.customers
kept_of_found old new test s growth found =
    let at = place_of_found test old.customers s no_section found in
    let some : Any (KeepsSection s) new.customers = subst (λ x. Any (KeepsSection x) new.customers) at.2 (growth.customers at.0 no_section at.1) in
    record {
      place = some.0;
      low = some.2;
      keeps = subst (KeepsSection s) (get_or_read new.customers some.0 some.1 some.2 (sym some.3) no_section) some.4;
    }

-- whose name is told, was found
found_of_name : (found : Option Section) (customer : List ℕ) → option_map (λ s.
    s.name) found ≡ Some customer → (s : Section) × (found ≡ Some s) × (s.name ≡ customer)
found_of_name None customer e = cc
found_of_name (Some s) customer e = (s, refl, cc)

found_of_some : (found : Option Section) → is_some found ≡ true → (s : Section) × (found ≡ Some s)
found_of_some None e = cc
found_of_some (Some s) e = (s, refl)

-- the issuer is one of this customer's
abbrev is_issuer_of : List ℕ → Section → Bool
is_issuer_of issuer s = list_any (bytes_eq issuer) s.issuers

-- an issuer of a customer is that customer's still
issuer_kept : (old new : SiteValue) (issuer customer : List ℕ) → IsSite new → IsGrowth old new → (ownership_of old).issuer issuer ≡ Some customer
    → (ownership_of new).issuer issuer ≡ Some customer
issuer_kept old new issuer customer w growth is =
    let found = found_of_name (find (is_issuer_of issuer) old.customers) customer is in
    let kept = kept_of_found old new (is_issuer_of issuer) found.0 growth found.1 in
    let own : Contains found.0.issuers issuer =
    Contains-from_any (λ x y. (bytes_eq-Decides x y).0) issuer found.0.issuers (find-passes (is_issuer_of issuer) old.customers found.0 found.1) in
    let there = All-contains (Contains (section_in new.customers kept.place).issuers) found.0.issuers issuer kept.keeps.issuers own in
    ap (option_map (λ s. s.name)) (find-of_key (λ x. x) (λ s. s.issuers) new.customers kept.place issuer w.issuers kept.low there)
    ∙ ap Some (kept.keeps.name ∙ found.2)

-- a seat of a customer is that customer's still
seat_kept : (old new : SiteValue) (seat customer : List ℕ) → IsSite new → IsGrowth old new → (ownership_of old).seat seat ≡ Some customer
    → (ownership_of new).seat seat ≡ Some customer
seat_kept old new seat customer w growth is =
    let found = found_of_name (find (has_seat seat) old.customers) customer is in
    let kept = kept_of_found old new (has_seat seat) found.0 growth found.1 in
    let own = Any-from_list_any (λ (own : SeatOf). bytes_eq seat own.name) found.0.seats (find-passes (has_seat seat) old.customers found.0 found.1) in
    let there = All-contains (Contains (section_in new.customers kept.place).seats) found.0.seats own.1 kept.keeps.seats (own.0, own.2, own.3) in
    let same : own.1.name ≡ seat = sym ((bytes_eq-Decides seat own.1.name).0 own.4) in
    let distinct = IsDistinct-by_key bytes_eq (λ (s : SeatOf). s.name) _ w.seats in
    let at = find-of_key (λ s. s.name) (λ s. s.seats) new.customers kept.place own.1 distinct kept.low there in
    ap (option_map (λ s. s.name)) (subst (λ (name : List ℕ). find (has_seat name) new.customers ≡ Some (section_in new.customers kept.place)) same at)
    ∙ ap Some (kept.keeps.name ∙ found.2)

-- a customer that was found by name is found with what it keeps
record IsFoundIn (s : Section) (customer : List ℕ) (customers : List Section) : Type 0 where
  section : Section
  found : find (λ s. bytes_eq customer s.name) customers ≡ Some section
  keeps : KeepsSection s section

found_again : (old new : SiteValue) (customer : List ℕ) (s : Section) → IsSite new → IsGrowth old new → find (λ s.
    bytes_eq customer s.name) old.customers ≡ Some s → IsFoundIn s customer new.customers
found_again old new customer s w growth found =
    let kept = kept_of_found old new (λ s. bytes_eq customer s.name) s growth found in
    let same : (section_in new.customers kept.place).name ≡ customer =
    kept.keeps.name ∙ sym ((bytes_eq-Decides customer s.name).0 (find-passes _ old.customers s found)) in
    record {
      section = section_in new.customers kept.place;
      found =
          subst (λ (name : List ℕ). find (λ s. bytes_eq name s.name) new.customers ≡ Some (section_in new.customers kept.place)) same
          (find-of_name new.customers kept.place w.names kept.low);
      keeps = kept.keeps;
    }

-- a block of addresses within a pool is within one of more pools
within_more : (block : ℕ × ℕ) (pools more all : List Pool) → all ≡ pools ++ more → Any (IsBlockWithin block) pools → Any (IsBlockWithin block) all
within_more block pools more all is some =
    let there = Contains-append_left pools more some.1 (some.0, some.2, some.3) in
    rw is (there.0, some.1, there.1, there.2, some.4)

pools_kept : (old new : SiteValue) (customer : List ℕ) (block : ℕ × ℕ) → IsSite new
    → IsGrowth old new → Any (IsBlockWithin block) ((ownership_of old).pools customer)
    → Any (IsBlockWithin block) ((ownership_of new).pools customer)
pools_kept old new customer block w growth some =
    let was = pool_of_found (find (λ s. bytes_eq customer s.name) old.customers) block some in
    let again = found_again old new customer was.0 w growth was.1 in
    rw again.found (within_more block was.0.pools again.keeps.pools.0 again.section.pools again.keeps.pools.1 was.2)

-- the owners of a site that grew
pub owners_grown : (old new : SiteValue) → IsSite new → IsGrowth old new → OwnershipGrows (ownership_of old) (ownership_of new)
owners_grown old new w growth = record {
  customers = λ customer is. let was =
      found_of_some (find (λ s. bytes_eq customer s.name) old.customers) is in ap is_some (found_again old new customer was.0 w growth was.1).found;
  issuers = λ issuer customer is. issuer_kept old new issuer customer w growth is;
  seats = λ seat customer is. seat_kept old new seat customer w growth is;
  pools = λ customer block some. pools_kept old new customer block w growth some;
}
