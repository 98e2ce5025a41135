-- Requests that are answered in turn keep the books.
use Rattle.std.proofs.Common.{◌≡◌, Bool, true, false, List, [], ◌∷◌, ◌++◌, Option, Some, None, refl, subst, MatchBool, Result, Ok, Err}
use Rattle.std.specs.List.{AllByRecursion}
use Rattle.http_frames.specs.Prelude.{Request as HttpRequest}
use Rattle.http_replies.specs.Prelude.{Answer, is_unavailable}
use Rattle.text_core.specs.Prelude.{Runs}
use Rattle.text_core.proofs.MachineLemmas.{runs_both}
use Rattle.site_core.specs.Prelude.{Ownership, seat_name_at, section_at, section_in, ownership_of, SiteValue, IsSite}
use Rattle.station_api.proofs.Types.{Caller, Seat, Manager, SeatCaller, Refusal, Parsed, Office, Report, SiteReport}
use Rattle.site_core.proofs.Owners.{owners_apart, seat_owned, section_owned}
use Rattle.office_tables.specs.Prelude.{KeepsText, Stands, Tables}
use Rattle.office_tables.specs.declared.keep.Keep.{Ghosts}
use Rattle.office_commands.specs.Prelude.{refusal, unkept}
use Rattle.office_laws.specs.Prelude.{IsSound, IsAsAlone, Call, Exchange, IsRun, FulfilsWanted, Passes, calls_of, CanAsk, IsSeat, LeavesAfter}
use Rattle.office_laws.proofs.Grown.{sound_grown}
use Rattle.office_laws.proofs.Promising.{promises}
use Rattle.office_laws.proofs.Seats.{IsSeatOf, all_seats}
use Rattle.station_api.specs.Prelude.{IsLed, StreamKeepsPromises, SiteRun, AnswersAnyCaller, ParsedOrUnkept, AnswersParsed, AnswersHttp, caller_at}
use Rattle.station_api.specs.Prelude.{exchange_any, exchange_in, exchange_of, exchanges_with_seats, wanted_of}
use Rattle.station_requests.specs.Prelude.{parse_request, of_manager, of_seat}
use Rattle.station_requests.proofs.AskedFor.{IsWithin, asked_within}
use Rattle.station_api.proofs.OwnCalls.{own_are}
use Rattle.station_api.proofs.OwnTokens.{caller_one}

-- what a seat asks for is one exchange
seat_passes : (site : SiteValue) (caller : SeatCaller) (wanted : Result Parsed Refusal) (t : Tables)
    (reply : Answer) (t2 : Tables) → ParsedOrUnkept site (Seat caller) wanted t reply t2
    → Passes t (exchange_of (section_at site caller) (seat_name_at site caller) wanted reply).0 reply t2
seat_passes site caller wanted t reply t2 made = by (is_unavailable reply.status) wanted made
  where
    by : (b : Bool) (wanted : Result Parsed Refusal)
        → MatchBool b ((reply ≡ refusal unkept) × (t2 ≡ t)) (AnswersParsed site (Seat caller) wanted t reply t2)
        → MatchBool b ((reply ≡ refusal unkept) × (t2 ≡ t))
        (FulfilsWanted (exchange_of (section_at site caller) (seat_name_at site caller) wanted reply).0 (wanted_of wanted) t reply t2)
    by true wanted made = made
    by false (Err reason) made = made
    by false (Ok (Office request)) made = made
    by false (Ok Report) made = made
    by false (Ok SiteReport) made = absurd made

-- nothing that the manager asks for changes anything
manager_same : (site : SiteValue) (wanted : Result Parsed Refusal) (t : Tables) (reply : Answer)
    (t2 : Tables) → ParsedOrUnkept site Manager wanted t reply t2 → t2 ≡ t
manager_same site wanted t reply t2 made = by (is_unavailable reply.status) wanted made
  where
    by : (b : Bool) (wanted : Result Parsed Refusal)
        → MatchBool b ((reply ≡ refusal unkept) × (t2 ≡ t)) (AnswersParsed site Manager wanted t reply t2)
        → t2 ≡ t
    by true wanted made = made.1
    by false (Err reason) made = made.1
    by false (Ok SiteReport) made = made.1
    by false (Ok (Office request)) made = absurd made
    by false (Ok Report) made = absurd made

-- what anybody is answered is one exchange or none
exchange_runs : (site : SiteValue) (found : Option Caller) (r : HttpRequest) (t : Tables)
    (reply : Answer) (t2 : Tables) → AnswersAnyCaller site found r t reply t2
    → IsRun (exchange_any site found r reply) t t2
exchange_runs site None r t reply t2 made = made.1
exchange_runs site (Some Manager) r t reply t2 made = manager_same site (parse_request of_manager r) t reply t2 made
exchange_runs site (Some (Seat caller)) r t reply t2 made =
    (t2, seat_passes site caller (parse_request of_seat r) t reply t2 made, refl)

-- what all requests are answered is a run
pub run_of : (site : SiteValue) (exchanges : List (HttpRequest × Answer)) (t t2 : Tables)
    → Runs (AnswersHttp site) t exchanges t2 → IsRun (exchanges_with_seats site exchanges) t t2
run_of site [] t t2 run = run
run_of site (exchange ∷ exchanges) t t2 run =
    runs_both Passes t (exchange_in site exchange) run.0 (exchanges_with_seats site exchanges) t2
    (exchange_runs site (caller_at site exchange.0) exchange.0 t exchange.1 run.0 run.1) (run_of site exchanges run.0 t2 run.2)

-- what a seat asks for is what a seat can ask for
can_ask : (wanted : Result Parsed Refusal) → IsWithin of_seat wanted → CanAsk (wanted_of wanted)
can_ask (Ok (Office request)) within = within
can_ask (Ok Report) within = tt
can_ask (Ok SiteReport) within = tt
can_ask (Err reason) within = tt

all_joined : (P : Call → Type 0) (xs ys : List Exchange) → AllByRecursion P (calls_of xs)
    → AllByRecursion P (calls_of ys) → AllByRecursion P (calls_of (xs ++ ys))
all_joined P [] ys all others = others
all_joined P (x ∷ xs) ys all others = (all.0, all_joined P xs ys all.1 others)

module _ (site : SiteValue) (w : IsSite site) where
  -- whoever has an exchange is a seat of the site
  exchange_seats : (r : HttpRequest) (reply : Answer) (found : Option Caller) → caller_at site r ≡ found
      → AllByRecursion (IsSeatOf (ownership_of site)) (calls_of (exchange_any site found r reply))
  exchange_seats r reply None is = tt
  exchange_seats r reply (Some Manager) is = tt
  exchange_seats r reply (Some (Seat caller)) is =
      let one = caller_one site r (Seat caller) is in (
        (
          owners_apart site w,
          record {
            section = section_owned site caller w one;
            seat = seat_owned site caller w one;
            wanted = can_ask (parse_request of_seat r) (asked_within of_seat r);
          },
        ),
        tt,
      )

  pub seats_of : (exchanges : List (HttpRequest × Answer))
      → AllByRecursion (IsSeatOf (ownership_of site)) (calls_of (exchanges_with_seats site exchanges))
  seats_of [] = tt
  seats_of (exchange ∷ exchanges) =
      all_joined (IsSeatOf (ownership_of site)) (exchange_in site exchange) (exchanges_with_seats site exchanges)
      (exchange_seats exchange.0 exchange.1 (caller_at site exchange.0) refl) (seats_of exchanges)

  -- from sound tables the books are kept
  pub kept : (exchanges : List (HttpRequest × Answer)) (t t2 : Tables) → IsSound (ownership_of site) t
      → Runs (AnswersHttp site) t exchanges t2 → StreamKeepsPromises site t exchanges t2
  kept exchanges t t2 sound run =
      let xs = exchanges_with_seats site exchanges in
      let promised = promises (ownership_of site) xs (ownership_of site) t t2 sound
      (all_seats (ownership_of site) (calls_of xs) (seats_of exchanges)) (run_of site exchanges t t2 run) in
      record {
        promises = promised;
        own = λ place low. own_are site w place low exchanges;
        isolated = λ place low.
            subst (λ (own : List Exchange). IsAsAlone (section_in site.customers place).name own t t2)
            (own_are site w place low exchanges) (promised.isolated (section_in site.customers place).name);
      }

-- the books are kept from tables that were sound before the site grew
pub run_kept : (r : SiteRun) → StreamKeepsPromises r.site r.old r.exchanges r.new
run_kept r =
    kept r.site r.is_site r.exchanges r.old r.new
    (sound_grown r.first (ownership_of r.site) r.old r.grew r.is_sound) r.is_run

pub seats_alone : (site : Ownership) (cs : List Call) → AllByRecursion (IsSeatOf site) cs → AllByRecursion (IsSeat site) cs
seats_alone site [] all = tt
seats_alone site (c ∷ cs) all = (all.0.1, seats_alone site cs all.1)

-- what was answered in turn, where a crash leaves what a stop may leave, with the text of the site, and the tables stand, leads from tables
-- to tables
pub led : {K : Type 0} (k : Ghosts K) (site : SiteValue) (old new : K) → IsSite site → (exchanges : List (HttpRequest × Answer)) (t t2 : Tables)
    → Runs (AnswersHttp site) t exchanges t2 → LeavesAfter (exchanges_with_seats site exchanges) (k.may_leave old) t (k.may_leave new) t2
    → KeepsText k.is_honest k.tells_text old new → Stands k.is_open k.tables new t2 → IsLed k site old new exchanges t t2
led k site old new w exchanges t t2 run crash text stands = record {
  run = run;
  answered = record { run = run_of site exchanges t t2 run; crash = crash; text = text; stands = stands };
  apart = owners_apart site w;
  seats = seats_alone (ownership_of site) (calls_of (exchanges_with_seats site exchanges)) (seats_of site w exchanges);
  books = λ first growth sound. kept site w exchanges t t2 (sound_grown first (ownership_of site) t growth sound) run;
}
