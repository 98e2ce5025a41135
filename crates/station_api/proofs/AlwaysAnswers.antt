-- From sound tables there is an answer to each request that is no 503.
use Rattle.std.proofs.Common.{◌≡◌, false, Option, Some, None, refl, Result, Ok, Err}
use Rattle.http_frames.specs.Prelude.{Request as HttpRequest}
use Rattle.http_replies.specs.Prelude.{Answer, is_unavailable}
use Rattle.site_core.specs.Prelude.{seat_name_at, section_at, ownership_of, SiteValue}
use Rattle.station_api.proofs.Types.{Caller, Seat, Manager, SeatCaller, Refusal, Parsed, Office, Report, SiteReport}
use Rattle.office_commands.specs.declared.refusal.Refusal.TheVariants.{UnknownToken}
use Rattle.office_tables.specs.Prelude.{Tables}
use Rattle.office_commands.specs.Prelude.{refusal}
use Rattle.office_laws.proofs.Served.{step_is_served}
use Rattle.office_laws.specs.Prelude.{IsSound, report_reply}
use Rattle.yield_report.specs.Prelude.{order_report_in, site_report_in}
use Rattle.office_laws.proofs.Steps.{step_exists}
use Rattle.station_api.specs.Prelude.{AnswersAnyCaller, ParsedOrUnkept, AnswersParsed, AnswersHttp, caller_at}
use Rattle.station_requests.specs.Prelude.{parse_request, of_manager, of_seat}
use Rattle.station_requests.proofs.AskedFor.{IsWithin, asked_within}

-- what is done, and no 503, is an answer
answers : (site : SiteValue) (caller : Caller) (wanted : Result Parsed Refusal) (t : Tables) (reply : Answer) (t2 : Tables)
    → is_unavailable reply.status ≡ false → AnswersParsed site caller wanted t reply t2 → ParsedOrUnkept site caller wanted t reply t2
answers site caller wanted t reply t2 served made = rw served made

-- an answer that is no 503
abbrev HasAnswer : SiteValue → Caller → Tables → Result Parsed Refusal → Type 0
HasAnswer site caller t wanted = (reply : Answer) × (t2 : Tables) × ParsedOrUnkept site caller wanted t reply t2 × (is_unavailable reply.status ≡ false)

module _ (site : SiteValue) (t : Tables) (sound : IsSound (ownership_of site) t) where
  -- what is refused or told, with the tables as they were
  told : (caller : Caller) (wanted : Result Parsed Refusal) (reply : Answer)
      → is_unavailable reply.status ≡ false → AnswersParsed site caller wanted t reply t
      → HasAnswer site caller t wanted
  told caller wanted reply served made = (reply, t, answers site caller wanted t reply t served made, served)

  -- there is an answer to what a seat asks
  seat_answers : (caller : SeatCaller) (wanted : Result Parsed Refusal) → IsWithin of_seat wanted → HasAnswer site (Seat caller) t wanted
  seat_answers caller (Err reason) within = told (Seat caller) (Err reason) (refusal reason) within (refl, refl)
  seat_answers caller (Ok (Office request)) within =
      let step = step_exists sound (section_at site caller) (seat_name_at site caller) request in
      let served = step_is_served (section_at site caller) (seat_name_at site caller) t request step.0 step.1 step.2 in
      (step.0, step.1, answers site (Seat caller) (Ok (Office request)) t step.0 step.1 served step.2, served)
  seat_answers caller (Ok Report) within = told (Seat caller) (Ok Report) (report_reply (order_report_in (section_at site caller).name t)) refl (refl, refl)
  seat_answers caller (Ok SiteReport) within = absurd within

  -- there is an answer to what the manager asks
  manager_answers : (wanted : Result Parsed Refusal) → IsWithin of_manager wanted → HasAnswer site Manager t wanted
  manager_answers (Err reason) within = told Manager (Err reason) (refusal reason) within (refl, refl)
  manager_answers (Ok SiteReport) within = told Manager (Ok SiteReport) (report_reply (site_report_in site t)) refl (refl, refl)
  manager_answers (Ok (Office request)) within = absurd within
  manager_answers (Ok Report) within = absurd within

  -- to each request there is an answer that is no 503
  pub always_answers : (r : HttpRequest) → (reply : Answer) × (t2 : Tables) × AnswersHttp site t r reply t2 × (is_unavailable reply.status ≡ false)
  always_answers r = by (caller_at site r)
    where
      by : (found : Option Caller) → (reply : Answer) × (t2 : Tables) × AnswersAnyCaller site found r t reply t2 × (is_unavailable reply.status ≡ false)
      by None = (refusal UnknownToken, t, (refl, refl), refl)
      by (Some (Seat caller)) = seat_answers caller (parse_request of_seat r) (asked_within of_seat r)
      by (Some Manager) = manager_answers (parse_request of_manager r) (asked_within of_manager r)
