-- Requests as they came, as calls of seats.
use Rattle.std.specs.Prelude.{ℕ, not, List, [], ◌∷◌, filter, flat_map, Option, Some, None, option_and_then, option_map, Result, Ok, Err, slice_index_or}
use Rattle.sha2.specs.Sha256.{sha256}
use Rattle.http_frames.specs.Prelude.{token_in_headers, Request as HttpRequest, headers_of}
use Rattle.http_replies.specs.Prelude.{Answer, is_unavailable}
use Rattle.site_core.specs.Prelude.{no_seat, seat_name_at, seat_with, section_at, Section, SiteValue}
use Rattle.site_core.specs.declared.site.Caller.{Caller}
use Rattle.site_core.specs.declared.site.Caller.TheVariants.{Seat, Manager}
use Rattle.office_commands.specs.declared.refusal.Refusal.{Refusal}
use Rattle.office_commands.specs.declared.refusal.Refusal.TheVariants.{WrongCaller}
use Rattle.office_laws.specs.Prelude.{Exchange, Wanted, asks, reports, refused}
use Rattle.station_api.specs.HttpAnswers.{caller_at}
use Rattle.station_requests.specs.Requests.{parse_request, kind_of_caller, of_seat}
use Rattle.station_requests.specs.declared.parse.Parsed.{Parsed}
use Rattle.station_requests.specs.declared.parse.Parsed.TheVariants.{Office, Report, SiteReport}

-- what is wanted by what a seat asks for: the manager's report is no seat's
abbrev pub wanted_of : Result Parsed Refusal → Wanted
wanted_of (Ok (Office request)) = asks request
wanted_of (Ok Report) = reports
wanted_of (Ok SiteReport) = refused WrongCaller
wanted_of (Err reason) = refused reason

-- the call of a seat that asks for this, with its reply
abbrev pub exchange_of : Section → List ℕ → Result Parsed Refusal → Answer → Exchange
exchange_of s seat wanted reply = (record { section = s; seat = seat; wanted = wanted_of wanted }, reply)

-- the seat of a customer whose token a request carries, by the customer's section alone
abbrev pub seat_of_token : Section → HttpRequest → Option (List ℕ)
seat_of_token s r =
    option_map (λ place. (slice_index_or s.seats place no_seat).name)
    (option_and_then (λ token. seat_with (sha256 token) s) (token_in_headers (headers_of r.head)))

-- the exchange with this seat, if there is one
abbrev pub section_exchange : Section → Option (List ℕ) → HttpRequest → Answer → List Exchange
section_exchange s None r reply = []
section_exchange s (Some seat) r reply = exchange_of s seat (parse_request of_seat r) reply ∷ []

-- a customer's own exchanges, by the customer's section alone: those with the customer's seats, in turn, but for those answered 503
abbrev pub section_exchanges : Section → List (HttpRequest × Answer) → List Exchange
section_exchanges s exchanges =
    filter (λ x. not (is_unavailable x.1.status)) (flat_map (λ exchange. section_exchange s (seat_of_token s exchange.0) exchange.0 exchange.1) exchanges)

-- the exchange with a caller who asks for this: the manager's is no customer's
abbrev pub exchange_asked : SiteValue → Caller → Result Parsed Refusal → Answer → List Exchange
exchange_asked site (Seat caller) wanted reply = exchange_of (section_at site caller) (seat_name_at site caller) wanted reply ∷ []
exchange_asked site Manager wanted reply = []

-- the exchange with whoever sent a request: without the token of a caller it is nobody's
abbrev pub exchange_any : SiteValue → Option Caller → HttpRequest → Answer → List Exchange
exchange_any site None r reply = []
exchange_any site (Some caller) r reply = exchange_asked site caller (parse_request (kind_of_caller caller) r) reply

-- the exchange with the seat whose token a request carries, if there is one
abbrev pub exchange_in : SiteValue → HttpRequest × Answer → List Exchange
exchange_in site exchange = exchange_any site (caller_at site exchange.0) exchange.0 exchange.1

-- the exchanges with the seats of a site, in turn
abbrev pub exchanges_with_seats : SiteValue → List (HttpRequest × Answer) → List Exchange
exchanges_with_seats site exchanges = flat_map (exchange_in site) exchanges
