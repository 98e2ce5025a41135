-- A customer's own exchanges are those that the customer's section alone tells.
use Rattle.std.proofs.Common.{◌≡◌, ◌<◌, ◌∙◌, ℕ, Bool, false, cond, List, [], ◌∷◌, ◌++◌, length, Option, Some, None, refl, sym, ap, ◌&&◌, not, bytes_eq, filter}
use Rattle.std.proofs.Common.{flat_map, is_some, Result}
use Rattle.std.proofs.lemmas.List.Elements.{filter-append}
use Rattle.text_core.proofs.Kit.{text_itself}
use Rattle.http_frames.specs.Prelude.{Request as HttpRequest}
use Rattle.http_replies.specs.Prelude.{Answer, is_unavailable}
use Rattle.site_core.specs.Prelude.{seat_name_at, section_at, section_in, Section, SiteValue, IsSite}
use Rattle.station_api.proofs.Types.{Caller, Seat, Manager, Refusal, Parsed}
use Rattle.office_laws.specs.Prelude.{is_own, exchanges_of, Exchange}
use Rattle.station_api.specs.Prelude.{caller_at, exchange_any, exchange_in, exchange_of, exchanges_with_seats, section_exchange, section_exchanges}
use Rattle.station_api.specs.Prelude.{seat_of_token}
use Rattle.station_requests.specs.Prelude.{parse_request, of_seat}
use Rattle.station_api.proofs.OwnTokens.{other_caller, own_caller, seat_name}

-- the exchange wasn't answered 503
abbrev is_served : Exchange → Bool
is_served x = not (is_unavailable x.1.status)

-- an exchange with a seat of a section is the customer's own
own_here : (s : Section) (seat : List ℕ) (wanted : Result Parsed Refusal) (reply : Answer)
    → filter (is_own s.name) (exchange_of s seat wanted reply ∷ [])
    ≡ filter is_served (exchange_of s seat wanted reply ∷ [])
own_here s seat wanted reply =
    let x : Exchange = exchange_of s seat wanted reply in
    ap (λ (b : Bool). cond (b && is_served x) (x ∷ []) []) (text_itself s.name s.name refl)

-- an exchange with a seat of a customer of another name isn't the customer's own
own_elsewhere : (customer : List ℕ) (s : Section) (seat : List ℕ) (wanted : Result Parsed Refusal)
    (reply : Answer) → bytes_eq customer s.name ≡ false
    → filter (is_own customer) (exchange_of s seat wanted reply ∷ []) ≡ []
own_elsewhere customer s seat wanted reply apart =
    let x : Exchange = exchange_of s seat wanted reply in
    ap (λ (b : Bool). cond (b && is_served x) (x ∷ []) []) apart

module _ (site : SiteValue) (w : IsSite site) (place : ℕ) (low : place < length site.customers) where
  abbrev mine : Section
  mine = section_in site.customers place

  -- the exchange with whoever sent a request is the customer's own where the customer's section says so
  own_exchange : (r : HttpRequest) (reply : Answer)
      → filter (is_own mine.name) (exchange_any site (caller_at site r) r reply)
      ≡ filter is_served (section_exchange mine (seat_of_token mine r) r reply)
  own_exchange r reply = by (seat_of_token mine r) refl
    where
      by_caller : (found : Option Caller) → caller_at site r ≡ found
          → is_some (seat_of_token mine r) ≡ false
          → filter (is_own mine.name) (exchange_any site found r reply) ≡ []
      by_caller None is apart = refl
      by_caller (Some Manager) is apart = refl
      by_caller (Some (Seat caller)) is apart =
          own_elsewhere mine.name (section_at site caller) (seat_name_at site caller) (parse_request of_seat r) reply
          (other_caller site w place low r apart (Seat caller) is)

      by : (seat : Option (List ℕ)) → seat_of_token mine r ≡ seat
          → filter (is_own mine.name) (exchange_any site (caller_at site r) r reply)
          ≡ filter is_served (section_exchange mine seat r reply)
      by None is = by_caller (caller_at site r) refl (ap is_some is)
      by (Some seat) is =
          let found = own_caller site w place low r (ap is_some is) in
          let same : seat_name site w place low found.0 ≡ seat = cc in
          ap (λ (caller : Option Caller). filter (is_own mine.name) (exchange_any site caller r reply)) found.1
          ∙ own_here mine (seat_name site w place low found.0) (parse_request of_seat r) reply
          ∙ ap (λ (name : List ℕ). filter is_served (exchange_of mine name (parse_request of_seat r) reply ∷ [])) same

  -- the customer's own exchanges are those that the customer's section says
  pub own_are : (exchanges : List (HttpRequest × Answer))
      → exchanges_of mine.name (exchanges_with_seats site exchanges) ≡ section_exchanges mine exchanges
  own_are [] = refl
  own_are (exchange ∷ exchanges) =
      filter-append (is_own mine.name) (exchange_in site exchange) (exchanges_with_seats site exchanges)
      ∙ (λ i. own_exchange exchange.0 exchange.1 i ++ own_are exchanges i)
      ∙ sym (filter-append is_served (section_exchange mine (seat_of_token mine exchange.0) exchange.0 exchange.1)
      (flat_map (λ x. section_exchange mine (seat_of_token mine x.0) x.0 x.1) exchanges))
