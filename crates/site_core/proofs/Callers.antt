-- What is known of a caller that was found.
use Rattle.std.proofs.Common.{◌≡◌, ◌<◌, ◌+◌, ◌||◌, ◌∷◌}
use Rattle.text_core.proofs.Kit.{◌∙◌, ℕ, suc, List, [], length, map, Bool, true, false, not, cond, ltb, Option, Some, None, is_some, IfSome, slice_index_or}
use Rattle.text_core.proofs.Kit.{refl, sym, ap, arith, flat_map, list_any, position, position_or_len, bytes_eq, nat_tests, nat_list_eq_equiv, map-append}
use Rattle.text_core.proofs.Kit.{list_any-append, position-Some, passes_at_first, bytes_eq-Decides}
use borrow.Author.Tests.{ltb-true}
use Rattle.sha2.specs.Sha256.{sha256}
use Rattle.text_core.specs.Prelude.{◌>>=◌}
use Rattle.site_core.specs.Prelude.{IsCaller, IsSeatCaller, caller_of, caller_or, has_seat_with, manager_with, no_seat, no_section, seat_caller_with, seat_of}
use Rattle.site_core.specs.Prelude.{seat_with, section_in, SeatOf, Section, SiteValue, has_token, tokens_of, with_token}
use Rattle.site_core.specs.declared.site.Caller.{Caller}
use Rattle.site_core.specs.declared.site.Caller.TheVariants.{Manager}
use Rattle.site_core.specs.declared.site.SeatCaller.{SeatCaller}

-- whether an element of a list passes, by its first
by_first : (b : Bool) (n l : ℕ) (r : Bool) → ltb n l ≡ r → ltb (cond (not b) (1 + n) 0) (suc l) ≡ (b || r)
by_first true n l r e = grind (arith, nat_tests)
by_first false n l r e = grind (arith, nat_tests)

-- a first place lies in the list where some element passes
within-list_any : {X : Type 0} (p : X → Bool) (xs : List X) → ltb (position_or_len p xs) (length xs) ≡ list_any p xs
within-list_any p [] = refl
within-list_any p (x ∷ xs) = by_first (p x) (position_or_len p xs) (length xs) (list_any p xs) (within-list_any p xs)

is_some-cond : {X : Type 0} (b : Bool) (x : X) → is_some (cond b (Some x) None) ≡ b
is_some-cond true x = refl
is_some-cond false x = refl

position-list_any : {X : Type 0} (p : X → Bool) (xs : List X) → is_some (position p xs) ≡ list_any p xs
position-list_any p xs = is_some-cond _ _ ∙ within-list_any p xs

-- the token of the seat that was found
seat_with-token : (digest : List ℕ) (section : Section) → IfSome (seat_with digest section) (λ seat. (slice_index_or section.seats seat no_seat).token ≡ digest)
seat_with-token digest section = by (ltb (position_or_len (has_token digest) section.seats) (length section.seats)) refl
  where
    by : (b : Bool) → ltb (position_or_len (has_token digest) section.seats) (length section.seats) ≡ b
        → IfSome (cond b (Some (position_or_len (has_token digest) section.seats)) None) (λ seat. (slice_index_or section.seats seat no_seat).token ≡ digest)
    by true e = (bytes_eq-Decides _ _).0 (passes_at_first (has_token digest) section.seats no_seat (ltb-true _ _ e))
    by false e = tt

abbrev caller_at : ℕ → ℕ → Option SeatCaller
caller_at customer seat = Some (record { customer = customer; seat = seat })

-- the seat of the caller that was found holds the token
pub seat_caller_with-holder : (digest : List ℕ) (site : SiteValue) → IfSome (seat_caller_with digest site.customers) (λ caller.
    (seat_of site caller).token ≡ digest)
seat_caller_with-holder digest site = by_customer (position (has_seat_with digest) site.customers)
  where
    by_seat : (customer : ℕ) (seat : Option ℕ) → IfSome seat (λ s.
        (slice_index_or (section_in site.customers customer).seats s no_seat).token ≡ digest)
        → IfSome (seat >>= caller_at customer) (λ caller. (seat_of site caller).token ≡ digest)
    by_seat customer None h = tt
    by_seat customer (Some s) h = h

    by_customer : (customer : Option ℕ) → IfSome (customer >>= (λ c. seat_with digest (section_in site.customers c) >>= caller_at c)) (λ caller.
        (seat_of site caller).token ≡ digest)
    by_customer None = tt
    by_customer (Some c) = by_seat c (seat_with digest (section_in site.customers c)) (seat_with-token digest (section_in site.customers c))

is_some-caller_at : (customer : ℕ) (seat : Option ℕ) → is_some (seat >>= caller_at customer) ≡ is_some seat
is_some-caller_at customer None = refl
is_some-caller_at customer (Some s) = refl

-- a seat is found where some customer has one that holds the token
seat_caller_with-known : (digest : List ℕ) (customers : List Section) → is_some (seat_caller_with digest customers) ≡ list_any (has_seat_with digest) customers
seat_caller_with-known digest customers =
    by (position_or_len (has_seat_with digest) customers) (ltb (position_or_len (has_seat_with digest) customers) (length customers)) found
    ∙ within-list_any (has_seat_with digest) customers
  where
    found : ltb (position_or_len (has_seat_with digest) customers) (length customers) ≡ true
        → has_seat_with digest (section_in customers (position_or_len (has_seat_with digest) customers)) ≡ true
    found e = passes_at_first (has_seat_with digest) customers no_section (ltb-true _ _ e)

    by : (place : ℕ) (b : Bool) → (b ≡ true → has_seat_with digest (section_in customers place) ≡ true)
        → is_some (cond b (Some place) None >>= (λ c. seat_with digest (section_in customers c) >>= caller_at c)) ≡ b
    by place true has =
        is_some-caller_at place (seat_with digest (section_in customers place)) ∙ position-list_any (has_token digest) (section_in customers place).seats
        ∙ has refl
    by place false has = refl

-- a digest is among the tokens of some seats where one of the seats has it
list_any-seat_tokens : (digest : List ℕ) (seats : List SeatOf) → list_any (bytes_eq digest) (map (λ seat. seat.token) seats) ≡ list_any (has_token digest) seats
list_any-seat_tokens digest [] = refl
list_any-seat_tokens digest (seat ∷ seats) =
    rw (nat_list_eq_equiv.symm digest seat.token, list_any-seat_tokens digest seats)

-- a digest is among the tokens of all customers where one of them has a seat with it
list_any-customer_tokens : (digest : List ℕ) (customers : List Section)
    → list_any (bytes_eq digest) (map (λ seat. seat.token) (flat_map (λ s. s.seats) customers)) ≡ list_any (has_seat_with digest) customers
list_any-customer_tokens digest [] = refl
list_any-customer_tokens digest (s ∷ customers) =
    rw (map-append, list_any-append, list_any-seat_tokens digest s.seats, list_any-customer_tokens digest customers)

-- the manager is one more who may hold the token
list_any-with_token : (digest : List ℕ) (manager : Option (List ℕ)) (tokens : List (List ℕ))
    → list_any (bytes_eq digest) (with_token manager tokens) ≡ (is_some (manager_with digest manager) || list_any (bytes_eq digest) tokens)
list_any-with_token digest None tokens = refl
list_any-with_token digest (Some token) tokens =
    ap (λ b. b || list_any (bytes_eq digest) tokens) (nat_list_eq_equiv.symm digest token ∙ sym (is_some-cond _ _))

is_some-caller_or : (found : Option SeatCaller) (other : Option Caller) → is_some (caller_or found other) ≡ (is_some other || is_some found)
is_some-caller_or None None = refl
is_some-caller_or None (Some caller) = refl
is_some-caller_or (Some seat) None = refl
is_some-caller_or (Some seat) (Some caller) = refl

-- a caller is found where somebody holds the token
pub caller_of-known : (site : SiteValue) (token : List ℕ) → is_some (caller_of site token) ≡ list_any (bytes_eq (sha256 token)) (tokens_of site)
caller_of-known site token =
    let digest = sha256 token in
    is_some-caller_or (seat_caller_with digest site.customers) (manager_with digest site.manager)
    ∙ ap (λ b. is_some (manager_with digest site.manager) || b)
    (seat_caller_with-known digest site.customers ∙ sym (list_any-customer_tokens digest site.customers))
    ∙ sym (list_any-with_token digest site.manager _)

-- a place that was found lies in the list
position-within : {X : Type 0} (p : X → Bool) (xs : List X) (d : X) (found : Option ℕ) → position p xs ≡ found → IfSome found (λ place. place < length xs)
position-within p xs d None is = tt
position-within p xs d (Some place) is = (position-Some p xs place d is).0

-- the caller that was found is a seat of the site
seat_caller_with-within : (digest : List ℕ) (site : SiteValue) → IfSome (seat_caller_with digest site.customers) (IsSeatCaller site)
seat_caller_with-within digest site =
    by_customer (position (has_seat_with digest) site.customers) (position-within (has_seat_with digest) site.customers no_section _ refl)
  where
    by_seat : (customer : ℕ) → customer < length site.customers → (seat : Option ℕ) → IfSome seat (λ s.
        s < length (section_in site.customers customer).seats) → IfSome (seat >>= caller_at customer) (IsSeatCaller site)
    by_seat customer customer_low None low = tt
    by_seat customer customer_low (Some s) low = record { customer_in = customer_low; seat_in = low }

    by_customer : (customer : Option ℕ) → IfSome customer (λ c.
        c < length site.customers) → IfSome (customer >>= (λ c. seat_with digest (section_in site.customers c) >>= caller_at c)) (IsSeatCaller site)
    by_customer None low = tt
    by_customer (Some c) low =
        by_seat c low (seat_with digest (section_in site.customers c)) (position-within (has_token digest) (section_in site.customers c).seats no_seat _ refl)

-- a manager is found where the site has one
manager_with-there : (digest : List ℕ) (site : SiteValue) (manager : Option (List ℕ)) → site.manager ≡ manager
    → IfSome (manager_with digest manager) (IsCaller site)
manager_with-there digest site None is = tt
manager_with-there digest site (Some token) is = elim (bytes_eq token digest) as (λ b. IfSome (cond b (Some Manager) None) (IsCaller site)) [
  | true ↦ ap is_some is
  | false ↦ tt
]

caller_or-one : (site : SiteValue) (found : Option SeatCaller) (other : Option Caller) → IfSome found (IsSeatCaller site) → IfSome other (IsCaller site)
    → IfSome (caller_or found other) (IsCaller site)
caller_or-one site None other is_seat is_one = is_one
caller_or-one site (Some caller) other is_seat is_one = is_seat

-- the caller that was found is one of the site
pub caller_of-one : (site : SiteValue) (token : List ℕ) (caller : Caller) → caller_of site token ≡ Some caller → IsCaller site caller
caller_of-one site token caller found =
    let digest = sha256 token in
    let is : IfSome (caller_of site token) (IsCaller site) =
    caller_or-one site (seat_caller_with digest site.customers) (manager_with digest site.manager) (seat_caller_with-within digest site)
    (manager_with-there digest site site.manager refl) in
    rw found at is
