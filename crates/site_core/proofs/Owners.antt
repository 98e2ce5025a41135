-- The issuers, seats and pools of each customer of a site are that customer's alone.
use Rattle.std.proofs.Common.{[], ◌≡◌, ◌<◌, ◌≤◌, ◌+◌, get_or}
use Rattle.text_core.proofs.Kit.{ℕ, List, length, map, take, Bool, true, false, Option, Some, None, inl, inr, refl, sym, ap, ◌∙◌, arith, bytes_eq, find}
use Rattle.text_core.proofs.Kit.{is_some, option_map, option_map_or, Any, Contains, flat_map, list_any, position_or_len, both_ways, cases_order}
use Rattle.text_core.proofs.Kit.{nat_list_eq_equiv, get_or-take, get_or_read, length-map, length-take-le, take-take, get_or-flat_map, All-from_get_or}
use Rattle.text_core.proofs.Kit.{recursion_from_All, find_at, length-flat_map-take, list_any_at, list_any_none, position_or_len_is, IsDistinct-from_apart}
use Rattle.text_core.proofs.Kit.{Contains-get_or, apart_from_distinct, get_or_from_slice_get, slice_get-get_or, slice_get_within, bytes_eq-Decides, find-passes}
use Rattle.std.specs.List.{IsDistinct}
use Rattle.std.proofs.lemmas.List.{get_or-map}
use Rattle.id_ranges.specs.Prelude.{Pool, IsIn, IsBlockWithin}
use Rattle.id_ranges.proofs.FreeBlocks.{blocks_overlap-from_IsIn}
use Rattle.site_core.specs.Prelude.{IsSeatCaller, no_seat, no_section, seat_name_at, section_at, section_in, PoolsDisjoint, IsSection, ownership_of, SeatOf}
use Rattle.site_core.specs.Prelude.{Section, SiteValue, IsSite, pools_meet}
use Rattle.site_core.specs.declared.site.SeatCaller.{SeatCaller}

-- the pieces before the j-th hold the whole of an earlier one
length-earlier_piece : {X A : Type 0} (f : X → List A) (xs : List X) (i j : ℕ) (d : X) → i < j → j < length xs
    → length (flat_map f (take i xs)) + length (f (get_or xs i d)) ≤ length (flat_map f (take j xs))
length-earlier_piece f xs i j d before low =
    let inside : i < length (take j xs) = omega (arith, length-take-le j xs (omega arith)) in
    let within : i ≤ j = omega arith in
    rw (← take-take i j xs within, ← get_or-take j xs i d before) (length-flat_map-take f (take j xs) i d inside)

-- an element of one piece is apart from one of a later piece
pub apart_in_pieces : {X A : Type 0} (e : A → A → Bool) (f : X → List A) (xs : List X) (i j : ℕ) (d : X) (x y : A)
    → IsDistinct e (flat_map f xs) → i < j → j < length xs → Contains (f (get_or xs i d)) x → Contains (f (get_or xs j d)) y → e x y ≡ false
apart_in_pieces e f xs i j d x y distinct before low first second =
    let earlier = length-earlier_piece f xs i j d before low in
    let all = length-flat_map-take f xs j d low in
    let apart =
    apart_from_distinct e (flat_map f xs) (length (flat_map f (take i xs)) + first.0) (length (flat_map f (take j xs)) + second.0) x distinct (omega arith)
    (omega arith) in
    let at_first = get_or-flat_map f xs i first.0 d x (omega arith) first.1 ∙ first.2 in
    let at_second = get_or-flat_map f xs j second.0 d x low second.1 ∙ sym (get_or_read (f (get_or xs j d)) second.0 y second.1 (sym second.2) x) in
    rw (at_first, at_second) at apart

-- where keys are apart, so are the elements by their keys
pub IsDistinct-by_key : {X K : Type 0} (e : K → K → Bool) (key : X → K) (xs : List X) → IsDistinct e (map key xs) → IsDistinct (λ x y. e (key x) (key y)) xs
IsDistinct-by_key e key xs distinct =
    IsDistinct-from_apart _ xs (λ i j d before low.
    rw (get_or-map key xs i d (key d) (omega arith), get_or-map key xs j d (key d) low) at (apart_from_distinct e (map key xs) i j (key d) distinct before
    (omega (arith, length-map xs key))))

-- what is found is the element at a place, if it passes and none before it does
find-at_place : {X : Type 0} (p : X → Bool) (xs : List X) (i : ℕ) (d : X) → i < length xs → p (get_or xs i d) ≡ true
    → ((k : ℕ) → k < i → p (get_or xs k d) ≡ false) → find p xs ≡ Some (get_or xs i d)
find-at_place p xs i d low passes before =
    let place = position_or_len_is p xs i d (omega arith) before (λ _. passes) in
    find_at p xs ∙ rw place (slice_get-get_or xs i d low)

-- the first of all customers with an element of this key is the one at the place that holds the element
pub find-of_key : {A : Type 0} (key : A → List ℕ) (f : Section → List A) (customers : List Section) (i : ℕ) (x : A)
    → IsDistinct (λ x y. bytes_eq (key x) (key y)) (flat_map f customers) → i < length customers → Contains (f (section_in customers i)) x
    → find (λ s. list_any (λ own. bytes_eq (key x) (key own)) (f s)) customers ≡ Some (section_in customers i)
find-of_key {A = A} key f customers i x distinct low own =
    find-at_place (λ s. list_any test (f s)) customers i no_section low passes earlier_fails
  where
    test : A → Bool
    test other = bytes_eq (key x) (key other)

    passes : list_any test (f (section_in customers i)) ≡ true
    passes = list_any_at test _ own.0 x own.1 ((bytes_eq-Decides _ _).1 (ap key (sym own.2)))

    earlier_fails : (k : ℕ) → k < i → list_any test (f (section_in customers k)) ≡ false
    earlier_fails k before =
        list_any_none test _ (All-from_get_or (λ other. test other ≡ false) (f (section_in customers k)) x (λ m inside.
        nat_list_eq_equiv.symm (key x) _
        ∙ apart_in_pieces (λ x y. bytes_eq (key x) (key y)) f customers k i no_section _ x distinct before low (Contains-get_or _ m x inside) own))

-- the customer of a name is the one at its place
pub find-of_name : (customers : List Section) (i : ℕ) → IsDistinct bytes_eq (map (λ s. s.name) customers) → i < length customers
    → find (λ s. bytes_eq (section_in customers i).name s.name) customers ≡ Some (section_in customers i)
find-of_name customers i distinct low =
    find-at_place _ customers i no_section low ((bytes_eq-Decides (section_in customers i).name (section_in customers i).name).1 refl) (λ k before.
    nat_list_eq_equiv.symm (section_in customers i).name _
    ∙ apart_from_distinct (λ s other. bytes_eq s.name other.name) customers k i no_section
    (IsDistinct-by_key bytes_eq (λ s. s.name) customers distinct) before low)

-- a seat of a customer is that customer's
seat_of_section : (site : SiteValue) (i : ℕ) (seat : SeatOf) → IsSite site → i < length site.customers → Contains (section_in site.customers i).seats seat
    → (ownership_of site).seat seat.name ≡ Some (section_in site.customers i).name
seat_of_section site i seat w low own =
    ap (option_map (λ s. s.name)) (find-of_key (λ seat. seat.name) (λ s.
    s.seats) site.customers i seat (IsDistinct-by_key bytes_eq (λ seat. seat.name) _ w.seats) low own)

-- the seat of a caller is its customer's
pub seat_owned : (site : SiteValue) (caller : SeatCaller) → IsSite site → IsSeatCaller site caller
    → (ownership_of site).seat (seat_name_at site caller) ≡ Some (section_at site caller).name
seat_owned site caller w within =
    seat_of_section site caller.customer _ w within.customer_in (Contains-get_or _ caller.seat no_seat within.seat_in)

-- the pools of a customer, none where there is no such customer
abbrev pools_in : Option Section → List Pool
pools_in found = option_map_or (λ s. s.pools) found []

-- the issuers, the seats and the pools of a caller's customer are that customer's
pub section_owned : (site : SiteValue) (caller : SeatCaller) → IsSite site → IsSeatCaller site caller → IsSection (ownership_of site) (section_at site caller)
section_owned site caller w within = record {
  customer = ap is_some (find-of_name site.customers caller.customer w.names within.customer_in);
  issuers = recursion_from_All _ _ (λ k d low.
      ap (option_map (λ s. s.name)) (find-of_key (λ issuer. issuer) (λ s.
      s.issuers) site.customers caller.customer _ w.issuers within.customer_in (Contains-get_or _ k d low)));
  seats = recursion_from_All _ _ (λ k d low. seat_of_section site caller.customer _ w within.customer_in (Contains-get_or _ k d low));
  pools = ap pools_in (find-of_name site.customers caller.customer w.names within.customer_in);
}

-- an address of a pool of the customer of a name
record IsHeld (customers : List Section) (name : List ℕ) (mac : ℕ) : Type 0 where
  place : ℕ
  low : place < length customers
  named : (section_in customers place).name ≡ name
  pool : Pool
  own : Contains (section_in customers place).pools pool
  inside : IsIn (pool.first, pool.count) mac

-- where something is found
pub place_of_found : {X : Type 0} (p : X → Bool) (xs : List X) (x d : X) → find p xs ≡ Some x → (i : ℕ) × (i < length xs) × (get_or xs i d ≡ x)
place_of_found p xs x d found =
    let at = sym (find_at p xs) ∙ found in
    (position_or_len p xs, slice_get_within xs _ x at, get_or_from_slice_get xs _ x d at)

-- an interval within a pool of a customer that was found
pub pool_of_found : (found : Option Section) (a : ℕ × ℕ) → Any (IsBlockWithin a) (pools_in found)
    → (s : Section) × (found ≡ Some s) × Any (IsBlockWithin a) s.pools
pool_of_found None a any = let low = any.2 in absurd (omega arith)
pool_of_found (Some s) a any = (s, refl, any)

-- an address of an interval within such a pool
IsHeld-from_within : (customers : List Section) (name : List ℕ) (a : ℕ × ℕ) (mac : ℕ)
    → Any (IsBlockWithin a) (pools_in (find (λ s. bytes_eq name s.name) customers))
    → IsIn a mac → IsHeld customers name mac
IsHeld-from_within customers name a mac any inside =
    let found = pool_of_found _ a any in
    let at = place_of_found _ customers found.0 no_section found.1 in
    let pool = found.2.1 in
    let within : IsBlockWithin a pool = found.2.4 in
    record {
      place = at.0;
      low = at.1;
      named = ap (λ s. s.name) at.2 ∙ sym ((bytes_eq-Decides _ _).0 (find-passes _ customers found.0 found.1));
      pool = pool;
      own = rw (at.2) (found.2.0, found.2.2, found.2.3);
      inside = (omega arith, omega arith);
    }

-- an address is in no pools of two customers, an earlier and a later one
held_apart : (site : SiteValue) (one other : List ℕ) (mac : ℕ) → IsSite site
    → (first : IsHeld site.customers one mac) (second : IsHeld site.customers other mac) → first.place < second.place → ⊥
held_apart site one other mac w first second before =
    both_ways _ (apart_in_pieces pools_meet (λ s. s.pools) site.customers first.place second.place no_section first.pool second.pool w.apart before second.low
    first.own second.own)
    (blocks_overlap-from_IsIn _ _ mac first.inside second.inside)

-- no address lies within pools of two customers
pub owners_apart : (site : SiteValue) → IsSite site → PoolsDisjoint (ownership_of site)
owners_apart site w = λ one other differ a b in_one in_other mac in_a in_b.
    let first = IsHeld-from_within site.customers one a mac in_one in_a in
    let second = IsHeld-from_within site.customers other b mac in_other in_b in
    elim (cases_order first.place second.place) [
      | inl same ↦ both_ways _ differ ((bytes_eq-Decides one other).1 (sym first.named ∙ ap (λ k. (section_in site.customers k).name) same ∙ second.named))
      | inr (inl before) ↦ held_apart site one other mac w first second before
      | inr (inr after) ↦ held_apart site other one mac w second first after
    ]
