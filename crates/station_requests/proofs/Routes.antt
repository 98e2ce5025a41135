-- What a route that a request's head leads to makes of the request.
use Rattle.std.proofs.Common.{◌≡◌, ◌⊎◌, ◌∙◌, ℕ, List, Option, Some, Result, Err, inl, inr, ap, ok_or, subst₂, sym}
use Rattle.text_core.specs.Prelude.{GivesUnless, result_and_then, result_map}
use Rattle.http_frames.specs.Prelude.{path_of, query_of, Request as HttpRequest}
use Rattle.station_requests.proofs.Types.{Operation, Parsed, Refusal, Route}
use Rattle.office_commands.specs.declared.refusal.Refusal.TheVariants.{UnknownPath}
use Rattle.office_commands.specs.Prelude.{unkept}
use Rattle.station_requests.specs.declared.parse.Parsed.TheVariants.{Office}
use Rattle.station_requests.specs.declared.parse.Route.TheVariants.{Asks}
use Rattle.station_requests.specs.Prelude.{of_seat, parse_at_route, parse_request, request_read, route_among, routes}
use Rattle.station_requests.specs.Requests.{Kind}

-- what a request asks for is what its route asks for
pub led_to : (r : HttpRequest) (kind : Kind) (route : Route) (method path : List ℕ) → method ≡ r.head.method → path ≡ path_of r.head.target
    → route_among method path routes ≡ Some route → parse_request kind r ≡ parse_at_route route kind r
led_to r kind route method path m p led =
    ap (λ (found : Option Route). result_and_then (λ to. parse_at_route to kind r) (ok_or found UnknownPath))
    (subst₂ (λ x y. route_among x y routes ≡ Some route) m p led)

-- what a seat's operation makes of the parts of a request is what the request asks for
pub asked_read : (r : HttpRequest) (asked : Operation) (method path query body : List ℕ) (found : Result Parsed Refusal)
    → method ≡ r.head.method → path ≡ path_of r.head.target → query ≡ query_of r.head.target → body ≡ r.body
    → route_among method path routes ≡ Some (Asks asked)
    → (found ≡ result_map Office (request_read asked method query body)) ⊎ (found ≡ Err unkept)
    → GivesUnless unkept found (parse_request of_seat r)
asked_read r asked method path query body found m p q b led (inl is) =
    inl (is ∙ ((λ i. result_map Office (request_read asked (m i) (q i) (b i))) ∙ sym (led_to r of_seat (Asks asked) method path m p led)))
asked_read r asked method path query body found m p q b led (inr out) = inr out
