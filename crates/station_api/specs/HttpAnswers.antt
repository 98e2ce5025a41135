-- What a stream's requests are answered, over the tables of all customers.
use Rattle.std.specs.Prelude.{◌≡◌, ◌⊎◌, List, Option, Some, None, option_and_then, Result, Ok, Err, MatchBool}
use Rattle.std.specs.List.{AllByRecursion}
use Rattle.http_frames.specs.Prelude.{token_in_headers, Request as HttpRequest, headers_of}
use Rattle.http_replies.specs.Prelude.{Answer, is_unavailable}
use Rattle.site_core.specs.Prelude.{SiteValue, caller_of, section_at, seat_name_at}
use Rattle.site_core.specs.declared.site.Caller.{Caller}
use Rattle.site_core.specs.declared.site.Caller.TheVariants.{Seat, Manager}
use Rattle.office_tables.specs.Prelude.{KeepsText, Tables, Stands}
use Rattle.office_tables.specs.declared.keep.Keep.{Ghosts}
use Rattle.office_commands.specs.declared.refusal.Refusal.{Refusal}
use Rattle.office_commands.specs.declared.refusal.Refusal.TheVariants.{UnknownToken}
use Rattle.office_commands.specs.Prelude.{refusal, unkept}
use Rattle.office_rules.specs.Prelude.{Step}
use Rattle.office_laws.specs.Prelude.{Exchange, report_reply, LeavesAfter}
use Rattle.yield_report.specs.Prelude.{order_report_in, site_report_in}
use Rattle.station_requests.specs.Requests.{parse_request, kind_of_caller}
use Rattle.station_requests.specs.declared.parse.Parsed.{Parsed}
use Rattle.station_requests.specs.declared.parse.Parsed.TheVariants.{Office, Report, SiteReport}

-- the caller whose token a request carries
abbrev pub caller_at : SiteValue → HttpRequest → Option Caller
caller_at site r = option_and_then (caller_of site) (token_in_headers (headers_of r.head))

-- what was asked is refused, or answered by a step of the office or with a report, which changes nothing. No other caller asks for these
abbrev pub AnswersParsed : SiteValue → Caller → Result Parsed Refusal → Tables → Answer → Tables → Type 0
AnswersParsed site caller (Err reason) t reply t2 = (reply ≡ refusal reason) × (t2 ≡ t)
AnswersParsed site (Seat caller) (Ok (Office request)) t reply t2 = Step (section_at site caller) (seat_name_at site caller) t request reply t2
AnswersParsed site (Seat caller) (Ok Report) t reply t2 = (reply ≡ report_reply (order_report_in (section_at site caller).name t)) × (t2 ≡ t)
AnswersParsed site Manager (Ok SiteReport) t reply t2 = (reply ≡ report_reply (site_report_in site t)) × (t2 ≡ t)
AnswersParsed site (Seat caller) (Ok SiteReport) t reply t2 = ⊥
AnswersParsed site Manager (Ok (Office request)) t reply t2 = ⊥
AnswersParsed site Manager (Ok Report) t reply t2 = ⊥

-- 503, which changes nothing, or what was asked
abbrev pub ParsedOrUnkept : SiteValue → Caller → Result Parsed Refusal → Tables → Answer → Tables → Type 0
ParsedOrUnkept site caller wanted t reply t2 =
    MatchBool (is_unavailable reply.status) ((reply ≡ refusal unkept) × (t2 ≡ t)) (AnswersParsed site caller wanted t reply t2)

-- what a request of a known caller is answered
abbrev pub AnswersKnownCaller : SiteValue → Caller → HttpRequest → Tables → Answer → Tables → Type 0
AnswersKnownCaller site caller r t reply t2 = ParsedOrUnkept site caller (parse_request (kind_of_caller caller) r) t reply t2

-- what a request of any caller is answered: a caller who isn't known is refused, and nothing changes
abbrev pub AnswersAnyCaller : SiteValue → Option Caller → HttpRequest → Tables → Answer → Tables → Type 0
AnswersAnyCaller site None r t reply t2 = (reply ≡ refusal UnknownToken) × (t2 ≡ t)
AnswersAnyCaller site (Some caller) r t reply t2 = AnswersKnownCaller site caller r t reply t2

-- what a request is answered: a request without the token of a caller is refused and changes nothing
abbrev pub AnswersHttp : SiteValue → Tables → HttpRequest → Answer → Tables → Type 0
AnswersHttp site t r reply t2 = AnswersAnyCaller site (caller_at site r) r t reply t2

-- what is known of a reply whatever the store does: a request that is refused as it came gets its refusal or 503
abbrev pub SaysRefusal : Result Parsed Refusal → Answer → Type 0
SaysRefusal (Err reason) reply = (reply ≡ refusal reason) ⊎ (reply ≡ refusal unkept)
SaysRefusal (Ok parsed) reply = Unit {0}

-- what is known of the reply to a caller, whatever the store does: one who isn't known is refused,
-- and a known one's request that is refused as it came gets its refusal or 503
abbrev pub SaysAny : Option Caller → HttpRequest → Answer → Type 0
SaysAny None r reply = reply ≡ refusal UnknownToken
SaysAny (Some caller) r reply = SaysRefusal (parse_request (kind_of_caller caller) r) reply

-- what is known of the reply to a request, whatever the store does: one without the token of a caller gets 401
abbrev pub Says : SiteValue → HttpRequest → Answer → Type 0
Says site r reply = SaysAny (caller_at site r) r reply

-- what is known of each reply of a stream, whatever the store does
abbrev pub AreSaid : SiteValue → List (HttpRequest × Answer) → Type 0
AreSaid site exchanges = AllByRecursion (λ exchange. Says site exchange.0 exchange.1) exchanges

-- a keeper's state before an answer and after it: where the disk is honest, the tables that stood
-- lead to those that stand, and a crash leaves what a stop may leave after these exchanges, which tells
-- of the text of the site that was told of before
pub record HandlerSteps {K : Type 0} (k : Ghosts K) (Said : Answer → Type 0) (exchanges : Answer
    → List Exchange) (step : Tables → Answer → Tables
    → Type 0) (old : K) (reply : Answer) (new : K) : Type 0 where
  pub was_open : k.is_open new → k.is_open old
  pub was_honest : k.is_honest new → k.is_honest old
  pub text : KeepsText k.is_honest k.tells_text old new
  pub said : Said reply
  pub answered : k.is_honest new → (t : Tables) → Stands k.is_open k.tables old t
      → (t2 : Tables) × step t reply t2
      × LeavesAfter (exchanges reply) (k.may_leave old) t (k.may_leave new) t2
      × Stands k.is_open k.tables new t2
