-- Whose a request is: by a customer's section alone as by the whole site.
use Rattle.std.proofs.Common.{◌≡◌, ◌<◌, get_or}
use Rattle.text_core.proofs.Kit.{ℕ, arith, Bool, true, false, cond, List, length, map, Option, Some, None, inl, inr, refl, sym, ap, ◌∙◌, subst, true≢false}
use Rattle.text_core.proofs.Kit.{bytes_eq, is_some, option_and_then, option_map, slice_index_or, flat_map, position, position_or_len, cases_order, nat_tests}
use Rattle.text_core.proofs.Kit.{nat_list_eq_equiv, All-from_get_or, Contains-get_or, list_any_at, list_any_none, position-Some, position_or_len_is}
use Rattle.text_core.proofs.Kit.{apart_from_distinct, same_text}
use Rattle.std.specs.List.{IsDistinct}
use Rattle.sha2.specs.Sha256.{sha256}
use Rattle.text_core.specs.Prelude.{◌>>=◌}
use Rattle.http_frames.specs.Prelude.{token_in_headers, Request as HttpRequest, headers_of}
use Rattle.site_core.specs.Prelude.{IsCaller, caller_of, caller_or, has_seat_with, manager_with, no_seat, no_section, seat_caller_with, seat_with, section_at}
use Rattle.site_core.specs.Prelude.{section_in, SeatOf, Section, SiteValue, has_token, with_token, IsSite}
use Rattle.station_api.proofs.Types.{Caller, Seat, Manager, SeatCaller}
use Rattle.site_core.proofs.Callers.{caller_of-one}
use Rattle.site_core.proofs.Owners.{IsDistinct-by_key, apart_in_pieces}
use Rattle.station_api.specs.Prelude.{caller_at, seat_of_token}
use Rattle.station_requests.proofs.Members.{bound}

-- a request carries the token of one of the customer's seats
abbrev pub has_seat : Section → HttpRequest → Bool
has_seat s r = is_some (seat_of_token s r)

-- the caller of a request is one of the site
pub caller_one : (site : SiteValue) (r : HttpRequest) (caller : Caller) → caller_at site r ≡ Some caller → IsCaller site caller
caller_one site r caller is = by (token_in_headers (headers_of r.head)) is
  where
    by : (token : Option (List ℕ)) → option_and_then (caller_of site) token ≡ Some caller → IsCaller site caller
    by None is = cc
    by (Some token) is = caller_of-one site token caller is

-- the first that passes
place_at : {X : Type 0} (p : X → Bool) (xs : List X) (i : ℕ) (d : X) → i < length xs
    → p (get_or xs i d) ≡ true → ((k : ℕ) → k < i → p (get_or xs k d) ≡ false)
    → position p xs ≡ Some i
place_at p xs i d low passes before =
    let place : position_or_len p xs ≡ i = position_or_len_is p xs i d (omega (arith, low)) before (λ _. passes) in
    rw place (grind (arith, nat_tests, low))

-- apart from the manager's, tokens are distinct still
without_manager : (manager : Option (List ℕ)) (tokens : List (List ℕ)) → IsDistinct bytes_eq (with_token manager tokens) → IsDistinct bytes_eq tokens
unfolding IsDistinct
without_manager None tokens distinct = distinct
without_manager (Some token) tokens distinct = distinct.1

-- no two seats have a token in common
seat_tokens : (site : SiteValue) → IsSite site → IsDistinct (λ (x y : SeatOf). bytes_eq x.token y.token) (flat_map (λ s. s.seats) site.customers)
seat_tokens site w = IsDistinct-by_key bytes_eq (λ seat.
    seat.token) (flat_map (λ s.
    s.seats) site.customers) (without_manager site.manager (map (λ seat.
    seat.token) (flat_map (λ s. s.seats) site.customers)) w.tokens)

-- who holds a token is a seat of one of the customers, and the first of its customer's that has the token
record HoldsSeat (site : SiteValue) (digest : List ℕ) (caller : SeatCaller) : Type 0 where
  customer_in : caller.customer < length site.customers
  seat : seat_with digest (section_at site caller) ≡ Some caller.seat

-- the seat that is found holds the token
seat_found : (site : SiteValue) (digest : List ℕ) (caller : SeatCaller) → seat_caller_with digest site.customers ≡ Some caller → HoldsSeat site digest caller
seat_found site digest caller found =
    let customer = bound (position (has_seat_with digest) site.customers) (λ customer.
    seat_with digest (section_in site.customers customer) >>= (λ seat.
    Some (record { customer = customer; seat = seat }))) caller found in
    let seat = bound (seat_with digest (section_in site.customers customer.0)) (λ seat.
    Some (record { customer = customer.0; seat = seat })) caller customer.2 in
    let holds : HoldsSeat site digest (record { customer = customer.0; seat = seat.0 }) = record {
      customer_in = (position-Some (has_seat_with digest) site.customers customer.0 no_section customer.1).0;
      seat = seat.1;
    } in
    let same : ◌≡◌ {A = SeatCaller} (record { customer = customer.0; seat = seat.0 }) caller = cc in
    subst (HoldsSeat site digest) same holds

-- the manager is no seat
manager_is : (digest : List ℕ) (manager : Option (List ℕ)) (caller : SeatCaller) → manager_with digest manager ≡ Some (Seat caller) → ⊥
manager_is digest None caller e = cc
manager_is digest (Some token) caller e = elim (bytes_eq token digest) as (λ b. cond b (Some Manager) None ≡ Some (Seat caller) → ⊥) [
  | true ↦ λ e. cc
  | false ↦ λ e. cc
] e

-- a caller who is a seat holds the token
token_found : (site : SiteValue) (token : List ℕ) (caller : SeatCaller) → caller_of site token ≡ Some (Seat caller) → HoldsSeat site (sha256 token) caller
token_found site token caller e = by (seat_caller_with (sha256 token) site.customers) refl e
  where
    by : (found : Option SeatCaller) → seat_caller_with (sha256 token) site.customers ≡ found
        → caller_or found (manager_with (sha256 token) site.manager) ≡ Some (Seat caller)
        → HoldsSeat site (sha256 token) caller
    by None is e = absurd (manager_is (sha256 token) site.manager caller e)
    by (Some other) is e = let same : other ≡ caller = cc in seat_found site (sha256 token) caller (is ∙ ap Some same)

-- a caller that is no seat of the customer
abbrev pub IsOther : SiteValue → List ℕ → Caller → Type 0
IsOther site customer (Seat caller) = bytes_eq customer (section_at site caller).name ≡ false
IsOther site customer Manager = Unit {0}

module _ (site : SiteValue) (w : IsSite site) (place : ℕ) (low : place < length site.customers) where
  abbrev mine : Section
  mine = section_in site.customers place

  abbrev pub seat_name : ℕ → List ℕ
  seat_name seat = (slice_index_or mine.seats seat no_seat).name

  abbrev seat_here : ℕ → SeatCaller
  seat_here seat = record { customer = place; seat = seat }

  -- a seat of the customer is the first of all with its token
  found_here : (digest : List ℕ) (p : ℕ) → seat_with digest mine ≡ Some p → seat_caller_with digest site.customers ≡ Some (seat_here p)
  found_here digest p found = rw (first, found) refl
    where
      at : (p < length mine.seats) × (has_token digest (get_or mine.seats p no_seat) ≡ true)
          × ((k : ℕ) → k < p → has_token digest (get_or mine.seats k no_seat) ≡ false)
      at = position-Some (has_token digest) mine.seats p no_seat found

      earlier : (k : ℕ) → k < place → has_seat_with digest (get_or site.customers k no_section) ≡ false
      earlier k before = list_any_none (has_token digest) _ (All-from_get_or (λ other.
          has_token digest other ≡ false) (section_in site.customers k).seats no_seat (λ m inside.
          let apart = apart_in_pieces (λ (x y : SeatOf). bytes_eq x.token y.token) (λ s.
          s.seats) site.customers k place no_section
          (get_or (section_in site.customers k).seats m no_seat) (get_or mine.seats p no_seat)
          (seat_tokens site w) before low (Contains-get_or _ m no_seat inside) (Contains-get_or _ p no_seat at.0) in
          subst (λ (t : List ℕ).
          bytes_eq (get_or (section_in site.customers k).seats m no_seat).token t
          ≡ false) (same_text (get_or mine.seats p no_seat).token digest at.1) apart))

      first : position (has_seat_with digest) site.customers ≡ Some place
      first = place_at (has_seat_with digest) site.customers place no_section low (list_any_at (has_token digest) mine.seats p no_seat at.0 at.1) earlier

  -- an own request is that of the customer's seat
  pub own_caller : (r : HttpRequest) → has_seat mine r ≡ true → (p : ℕ)
      × (caller_at site r ≡ Some (Seat (seat_here p))) × (seat_of_token mine r ≡ Some (seat_name p))
  own_caller r own = by_token (token_in_headers (headers_of r.head)) own
    where
      by_seat : (digest : List ℕ) (seat : Option ℕ) → seat_with digest mine ≡ seat → is_some (option_map seat_name seat) ≡ true
          → (p : ℕ)
          × (caller_or (seat_caller_with digest site.customers)
          (manager_with digest site.manager) ≡ Some (Seat (seat_here p)))
          × (option_map seat_name seat ≡ Some (seat_name p))
      by_seat digest None found own = cc
      by_seat digest (Some p) found own = (p, ap (λ (o : Option SeatCaller). caller_or o (manager_with digest site.manager)) (found_here digest p found), refl)

      by_token : (token : Option (List ℕ)) → is_some (option_map seat_name (option_and_then (λ token. seat_with (sha256 token) mine) token)) ≡ true
          → (p : ℕ) × (option_and_then (caller_of site) token ≡ Some (Seat (seat_here p)))
          × (option_map seat_name (option_and_then (λ token.
          seat_with (sha256 token) mine) token) ≡ Some (seat_name p))
      by_token None own = cc
      by_token (Some token) own = by_seat (sha256 token) (seat_with (sha256 token) mine) refl own

  -- no other customer has the customer's name
  other_name : (j : ℕ) → j < length site.customers → (place ≡ j → ⊥) → bytes_eq mine.name (section_in site.customers j).name ≡ false
  other_name j within differ = elim (cases_order place j) [
    | inl same ↦ absurd (differ same)
    | inr (inl before) ↦ apart_from_distinct (λ (s other : Section).
        bytes_eq s.name other.name)
        site.customers place j no_section (IsDistinct-by_key bytes_eq (λ s.
        s.name) site.customers w.names) before within
    | inr (inr after) ↦ nat_list_eq_equiv.symm mine.name (section_in site.customers j).name
        ∙ apart_from_distinct (λ (s other : Section).
        bytes_eq s.name other.name)
        site.customers j place no_section (IsDistinct-by_key bytes_eq (λ s.
        s.name) site.customers w.names) after low
  ]

  -- a request that is not own is that of another customer's seat, of the manager or of nobody
  pub other_caller : (r : HttpRequest) → has_seat mine r ≡ false → (caller : Caller) → caller_at site r ≡ Some caller → IsOther site mine.name caller
  other_caller r apart Manager is = tt
  other_caller r apart (Seat caller) is = by_token (token_in_headers (headers_of r.head)) apart is
    where
      by_token : (token : Option (List ℕ))
          → is_some (option_map seat_name (option_and_then (λ token.
          seat_with (sha256 token) mine) token)) ≡ false
          → option_and_then (caller_of site) token ≡ Some (Seat caller)
          → bytes_eq mine.name (section_at site caller).name ≡ false
      by_token None apart is = cc
      by_token (Some token) apart is =
          let holds = token_found site token caller is in
          other_name caller.customer holds.customer_in (λ same.
          let here : seat_with (sha256 token) mine
          ≡ Some caller.seat = subst (λ k.
          seat_with (sha256 token) (section_in site.customers k)
          ≡ Some caller.seat) (sym same) holds.seat in
          true≢false (sym (ap (λ seat. is_some (option_map seat_name seat)) here) ∙ apart))
