-- Each refusal in the log is an answer that the request had.
use Rattle.std.proofs.Common.{◌≡◌, ℕ, ◌-◌, Bool, true, false, List, [], ◌∷◌, length, Option, None, Some}
use Rattle.std.proofs.Common.{refl, sym, subst, inl, inr}
use Rattle.std.proofs.lemmas.Bool.{eqb-true}
use Rattle.std.specs.Prelude.{◌==◌, ◌&&◌, nat_lt}
use Rattle.seat_core.specs.declared.act.Act.{Act}
use Rattle.seat_core.specs.declared.act.Act.TheVariants.{LogNumber, LogOutcome, LogRequest}
use Rattle.seat_core.specs.declared.act.Trouble.TheVariants.{Busy, Stopped, Unsure, Waits}
use Rattle.seat_core.specs.declared.event.Event.{Event}
use Rattle.seat_core.specs.declared.event.Event.TheVariants.{Start, Want, Accept, Refuse, Miss, GiveUp, Look}
use Rattle.seat_core.specs.declared.request.Answered.{Answered}
use Rattle.seat_core.specs.declared.request.Outcome.TheVariants.{Done, NotDone}
use Rattle.seat_core.specs.declared.request.Sent.{Sent}
use Rattle.seat_core.specs.declared.request.Stop.{Stop}
use Rattle.seat_core.specs.declared.station.Place.{Place}
use Rattle.seat_core.specs.declared.station.Place.TheVariants.{Unknown, Free, UnderWay}
use Rattle.seat_core.specs.declared.station.SeatFile.{SeatFile}
use Rattle.seat_core.specs.declared.station.Station.{Station}
use Rattle.seat_core.specs.declared.station.Waiting.{Waiting}
use Rattle.seat_core.specs.declared.station.Waiting.TheVariants.{Nothing, Once, Again, Kept, Number}
use Rattle.seat_core.specs.Steps.{Step, number_after}
use Rattle.seat_core.specs.Starts.{number_at, request_step, start_step}
use Rattle.seat_core.specs.Replies.{completion, late_copy, patience_step, probe_reply, probe_silence, reply_step, silence_step, untried_request}
use Rattle.seat_core.specs.Refusals.{aside_step, probe_of, probe_refusal, probe_step, refusal_at, request_refusal, stop_step}
use Rattle.seat_core.specs.Events.{step_of}
use Rattle.seat_core.proofs.Safe.{step_safe}
use Rattle.seat_laws.specs.Served.{refuses}
use Rattle.seat_laws.specs.Runs.{IsAmong, IsRun, MayBefall, MayHappen, Move, Reply, World, after_move, after_moves, beginning, befalls}
use Rattle.seat_laws.specs.Runs.{last_sent, noted, says, serves, stops, takes}
use Rattle.seat_laws.specs.Concludes.{WasRefused, WereRefused, answers_in, line_of_request}
use Rattle.seat_laws.proofs.Acting.{Keeps, cut_holds, either, quiet, shows, step_holds}
use Rattle.seat_laws.proofs.Counting.{of_parts}

-- an answer to a request is one of these
abbrev pub AreGiven : List Reply → List Reply → Type 0
AreGiven answers since = (reply : Reply) (sent : Sent) → IsAmong reply since → reply.to ≡ Some sent
    → IsAmong reply answers

-- the refusals in the log were answers, and what the station may hear is one
pub record HasRefusals (answers : List Reply) (log : List Act) (since : List Reply) : Type 0 where
  pub lines : WereRefused answers log
  pub given : AreGiven answers since

abbrev pub HoldsIn : List Reply → SeatFile → World → Type 0
HoldsIn answers f w = HasRefusals answers w.log w.since

-- the newest line is of the request under way, of which a reply is waited for
abbrev pub WaitsAt : List Reply → Waiting → Place → List Act → Type 0
WaitsAt answers Nothing place log = Unit {0}
WaitsAt answers Once (UnderWay sent) log = line_of_request log ≡ Some sent
WaitsAt answers Again (UnderWay sent) log = line_of_request log ≡ Some sent
WaitsAt answers (Kept untried again) (UnderWay sent) log =
    (line_of_request log ≡ Some sent) × WasRefused answers (Some sent) sent.number 12
WaitsAt answers Number place log = Unit {0}
WaitsAt answers waiting place log = ⊥

abbrev pub AwaitsIn : List Reply → Station → World → Type 0
AwaitsIn answers s w = WaitsAt answers s.waiting s.file.place w.log

abbrev Lasting : List Reply → Station → World → Step → Type 0
Lasting answers s w step = Keeps (HoldsIn answers) (AwaitsIn answers) s w step

-- a line of a request, of a reply or of a number
asked : {answers : List Reply} {log : List Act} {since : List Reply} → (sent : Sent)
    → HasRefusals answers log since → HasRefusals answers (LogRequest sent ∷ log) since
asked sent has = record { lines = has.lines; given = has.given }

done : {answers : List Reply} {log : List Act} {since : List Reply} → (number reply : ℕ)
    → HasRefusals answers log since → HasRefusals answers (LogOutcome number (Done reply) ∷ log) since
done number reply has = record { lines = has.lines; given = has.given }

counted : {answers : List Reply} {log : List Act} {since : List Reply} → (number : ℕ)
    → HasRefusals answers log since → HasRefusals answers (LogNumber number ∷ log) since
counted number has = record { lines = has.lines; given = has.given }

refused : {answers : List Reply} {log : List Act} {since : List Reply} → (sent : Sent) (code : ℕ)
    → line_of_request log ≡ Some sent → WasRefused answers (Some sent) sent.number code
    → HasRefusals answers log since → HasRefusals answers (LogOutcome sent.number (NotDone code) ∷ log) since
refused {answers} sent code newest was has = record {
  lines = (subst (λ line. WasRefused answers line sent.number code) (sym newest) was, has.lines);
  given = has.given;
}

-- something is sent
sends : {answers : List Reply} {log : List Act} {since : List Reply} → HasRefusals answers log since
    → HasRefusals answers log []
sends has = record { lines = has.lines; given = λ reply sent among. elim among [ ] }

-- it starts
starts : (answers : List Reply) (place : Place) (aside : List ℕ) (last : Option Answered) (stop : Option Stop)
    (waiting : Waiting) (w : World) → HoldsIn answers (of_parts place aside last stop waiting).file w
    → Lasting answers (of_parts place aside last stop waiting) w
    (start_step (of_parts place aside last stop waiting))
starts answers place aside last (Some stop) waiting w has = record { lasts = (has, has); waits = tt }
starts answers Unknown aside last None waiting w has = record { lasts = (has, sends has); waits = tt }
starts answers (Free number) aside last None waiting w has = record { lasts = has; waits = tt }
starts answers (UnderWay sent) aside last None waiting w has =
    let line = asked sent has in record { lasts = (has, (line, sends line)); waits = refl }

-- a request is wanted
wants : (answers : List Reply) (place : Place) (aside : List ℕ) (last : Option Answered) (stop : Option Stop)
    (waiting : Waiting) (w : World) (request : ℕ) → HoldsIn answers (of_parts place aside last stop waiting).file w
    → AwaitsIn answers (of_parts place aside last stop waiting) w
    → Lasting answers (of_parts place aside last stop waiting) (noted (Want request) w)
    (request_step (of_parts place aside last stop waiting) request)
wants answers place aside last (Some stop) waiting w request has waits = shows (Stopped stop) has waits
wants answers (Free number) aside last None Nothing w request has waits =
    let line = asked (record { number = number; request = request }) has in
    record { lasts = (has, (has, (line, sends line))); waits = refl }
wants answers place aside last None waiting w request has waits = shows Busy has waits

completes : (answers : List Reply) (sent : Sent) (aside : List ℕ) (last : Option Answered) (stop : Option Stop)
    (waiting : Waiting) (w : World) (reply : ℕ)
    → HoldsIn answers (of_parts (UnderWay sent) aside last stop waiting).file w
    → Lasting answers (of_parts (UnderWay sent) aside last stop waiting) w
    (completion (of_parts (UnderWay sent) aside last stop waiting) sent reply)
completes answers sent aside last stop waiting w reply has =
    let line = done sent.number reply has in record { lasts = (has, (line, (line, line))); waits = tt }

finds : (answers : List Reply) (sent : Sent) (aside : List ℕ) (last : Option Answered) (stop : Option Stop)
    (waiting : Waiting) (w : World) (reply request : ℕ)
    → HoldsIn answers (of_parts (UnderWay sent) aside last stop waiting).file w
    → line_of_request w.log ≡ Some sent → WasRefused answers (Some sent) sent.number 12
    → Lasting answers (of_parts (UnderWay sent) aside last stop waiting) w
    (late_copy (of_parts (UnderWay sent) aside last stop waiting) sent
    (record { number = number_after sent.number; request = sent.request }) request reply)
finds answers sent aside last stop waiting w reply request has newest was =
    let first = refused sent 12 newest was has in
    let second = asked (record { number = sent.number; request = request }) first in
    let third = done sent.number reply second in
    let line = asked (record { number = number_after sent.number; request = sent.request }) third in
    record { lasts = (has, (first, (second, (third, (third, (third, (line, sends line))))))); waits = refl }

silences : (answers : List Reply) (place : Place) (aside : List ℕ) (last : Option Answered) (stop : Option Stop)
    (waiting : Waiting) (w : World) → HoldsIn answers (of_parts place aside last stop waiting).file w
    → AwaitsIn answers (of_parts place aside last stop waiting) w
    → Lasting answers (of_parts place aside last stop waiting) w
    (silence_step (of_parts place aside last stop waiting))
silences answers place aside last stop Nothing w has waits = quiet has waits
silences answers (UnderWay sent) aside last stop Once w has waits =
    record { lasts = (has, (has, sends has)); waits = waits }
silences answers (UnderWay sent) aside last stop Again w has waits =
    record { lasts = (has, (has, sends has)); waits = waits }
silences answers (UnderWay sent) aside last stop (Kept untried again) w has waits =
    probes_again (untried_request aside untried) where
      probes_again : (found : Option ℕ)
          → Lasting answers (of_parts (UnderWay sent) aside last stop (Kept untried again)) w
          (probe_silence (of_parts (UnderWay sent) aside last stop (Kept untried again)) sent.number found)
      probes_again None = quiet has waits
      probes_again (Some request) = record { lasts = (has, (has, sends has)); waits = waits }
silences answers place aside last stop Number w has waits =
    record { lasts = (has, (has, sends has)); waits = tt }
silences answers place aside last stop waiting w has waits = elim waits [ ]

replies : (answers : List Reply) (place : Place) (aside : List ℕ) (last : Option Answered) (stop : Option Stop)
    (waiting : Waiting) (w : World) (reply : ℕ) → HoldsIn answers (of_parts place aside last stop waiting).file w
    → AwaitsIn answers (of_parts place aside last stop waiting) w
    → Lasting answers (of_parts place aside last stop waiting) w
    (reply_step (of_parts place aside last stop waiting) reply)
replies answers place aside last stop Nothing w reply has waits = quiet has waits
replies answers (UnderWay sent) aside last stop Once w reply has waits =
    completes answers sent aside last stop Once w reply has
replies answers (UnderWay sent) aside last stop Again w reply has waits =
    completes answers sent aside last stop Again w reply has
replies answers (UnderWay sent) aside last stop (Kept untried again) w reply has waits =
    found_at (untried_request aside untried) where
      found_at : (found : Option ℕ)
          → Lasting answers (of_parts (UnderWay sent) aside last stop (Kept untried again)) w
          (probe_reply (of_parts (UnderWay sent) aside last stop (Kept untried again)) sent reply found)
      found_at None = quiet has waits
      found_at (Some request) =
          finds answers sent aside last stop (Kept untried again) w reply request has waits.0 waits.1
replies answers place aside last stop Number w reply has waits =
    silences answers place aside last stop Number w has waits
replies answers place aside last stop waiting w reply has waits = elim waits [ ]

asides : (answers : List Reply) (sent : Sent) (aside : List ℕ) (last : Option Answered) (stop : Option Stop)
    (waiting : Waiting) (w : World) (code : ℕ)
    → HoldsIn answers (of_parts (UnderWay sent) aside last stop waiting).file w
    → line_of_request w.log ≡ Some sent → WasRefused answers (Some sent) sent.number code
    → Lasting answers (of_parts (UnderWay sent) aside last stop waiting) w
    (aside_step (of_parts (UnderWay sent) aside last stop waiting) sent code)
asides answers sent aside last stop waiting w code has newest was =
    let line = refused sent code newest was has in record { lasts = (has, (line, (line, line))); waits = tt }

halts : (answers : List Reply) (sent : Sent) (aside : List ℕ) (last : Option Answered) (stop : Option Stop)
    (waiting : Waiting) (w : World) (again : Bool) (code : ℕ) (why : Stop)
    → HoldsIn answers (of_parts (UnderWay sent) aside last stop waiting).file w
    → line_of_request w.log ≡ Some sent → WasRefused answers (Some sent) sent.number code
    → Lasting answers (of_parts (UnderWay sent) aside last stop waiting) w
    (stop_step (of_parts (UnderWay sent) aside last stop waiting) sent again code why)
halts answers sent aside last stop waiting w true code why has newest was =
    record { lasts = (has, (has, has)); waits = tt }
halts answers sent aside last stop waiting w false code why has newest was =
    let line = refused sent code newest was has in record { lasts = (has, (line, (line, line))); waits = tt }

probes : (answers : List Reply) (sent : Sent) (aside : List ℕ) (last : Option Answered) (stop : Option Stop)
    (waiting : Waiting) (w : World) (again : Bool) (untried : ℕ)
    → HoldsIn answers (of_parts (UnderWay sent) aside last stop waiting).file w
    → line_of_request w.log ≡ Some sent → WasRefused answers (Some sent) sent.number 12
    → Lasting answers (of_parts (UnderWay sent) aside last stop waiting) w
    (probe_step (of_parts (UnderWay sent) aside last stop waiting) sent again untried)
probes answers sent aside last stop waiting w again untried has newest was = of (untried_request aside untried) where
  of : (found : Option ℕ) → Lasting answers (of_parts (UnderWay sent) aside last stop waiting) w
      (probe_of (of_parts (UnderWay sent) aside last stop waiting) sent again untried found)
  of None = halts answers sent aside last stop waiting w again 12 (record { code = 12; expected = 0 }) has newest was
  of (Some request) = record { lasts = (has, sends has); waits = (newest, was) }

refuses_request : (answers : List Reply) (sent : Sent) (aside : List ℕ) (last : Option Answered)
    (stop : Option Stop) (waiting : Waiting) (w : World) (again : Bool) (code expected : ℕ)
    → HoldsIn answers (of_parts (UnderWay sent) aside last stop waiting).file w
    → AwaitsIn answers (of_parts (UnderWay sent) aside last stop waiting) w
    → line_of_request w.log ≡ Some sent → WasRefused answers (Some sent) sent.number code
    → Lasting answers (of_parts (UnderWay sent) aside last stop waiting) w
    (request_refusal (of_parts (UnderWay sent) aside last stop waiting) sent again
    (record { code = code; expected = expected }))
refuses_request answers sent aside last stop waiting w again code expected has waits newest was =
    let s = of_parts (UnderWay sent) aside last stop waiting in
    let code_of : (other : ℕ) → (code == other) ≡ true → WasRefused answers (Some sent) sent.number other =
    λ other t. subst (WasRefused answers (Some sent) sent.number) (eqb-true code other t) was in
    either (HoldsIn answers) (AwaitsIn answers) s w (code == 11) _ _
    (λ t. halts answers sent aside last stop waiting w again 11 (record { code = code; expected = expected }) has
    newest (code_of 11 t))
    (λ t11. either (HoldsIn answers) (AwaitsIn answers) s w (code == 12) _ _
    (λ t. probes answers sent aside last stop waiting w again (length aside) has newest (code_of 12 t))
    (λ t12. either (HoldsIn answers) (AwaitsIn answers) s w (again && nat_lt code 11) _ _
    (λ t. shows (Unsure code) has waits)
    (λ t. asides answers sent aside last stop waiting w code has newest was)))

refuses_probe : (answers : List Reply) (sent : Sent) (aside : List ℕ) (last : Option Answered)
    (stop : Option Stop) (untried : ℕ) (again : Bool) (w : World) (code expected : ℕ)
    → HoldsIn answers (of_parts (UnderWay sent) aside last stop (Kept untried again)).file w
    → AwaitsIn answers (of_parts (UnderWay sent) aside last stop (Kept untried again)) w
    → Lasting answers (of_parts (UnderWay sent) aside last stop (Kept untried again)) w
    (probe_refusal (of_parts (UnderWay sent) aside last stop (Kept untried again)) sent untried again
    (record { code = code; expected = expected }))
refuses_probe answers sent aside last stop untried again w code expected has waits =
    let s = of_parts (UnderWay sent) aside last stop (Kept untried again) in
    either (HoldsIn answers) (AwaitsIn answers) s w (nat_lt code 11) _ _ (λ t. shows (Unsure code) has waits)
    (λ low. either (HoldsIn answers) (AwaitsIn answers) s w (code == 12) _ _
    (λ t. probes answers sent aside last stop (Kept untried again) w again (untried - 1) has waits.0 waits.1)
    (λ t. halts answers sent aside last stop (Kept untried again) w again 12
    (record { code = code; expected = expected }) has waits.0 waits.1))

-- the server says its number
resumes : (answers : List Reply) (place : Place) (aside : List ℕ) (last : Option Answered) (stop : Option Stop)
    (w : World) (expected : ℕ) → HoldsIn answers (of_parts place aside last stop Number).file w
    → Lasting answers (of_parts place aside last stop Number) w
    (number_at (of_parts place aside last stop Number) place expected)
resumes answers Unknown aside last stop w expected has = record { lasts = (has, has); waits = tt }
resumes answers (Free number) aside last stop w expected has =
    let line = counted expected has in record { lasts = (has, (line, line)); waits = tt }
resumes answers (UnderWay sent) aside last stop w expected has =
    let line = counted expected has in record { lasts = (has, (line, line)); waits = tt }

-- what was heard was given
was_given : (answers : List Reply) (sent : Sent) (code expected : ℕ) (since : List Reply) → AreGiven answers since
    → IsAmong (record { to = Some sent; answer = refuses code expected }) since
    → WasRefused answers (Some sent) sent.number code
was_given answers sent code expected since given among =
    (refl, expected, given (record { to = Some sent; answer = refuses code expected }) sent among refl)

refusals_at : (answers : List Reply) (place : Place) (aside : List ℕ) (last : Option Answered)
    (stop : Option Stop) (waiting : Waiting) (w : World) (code expected : ℕ)
    → HoldsIn answers (of_parts place aside last stop waiting).file w
    → AwaitsIn answers (of_parts place aside last stop waiting) w
    → IsAmong (record { to = last_sent waiting place aside; answer = refuses code expected }) w.since
    → Lasting answers (of_parts place aside last stop waiting) w
    (refusal_at (of_parts place aside last stop waiting) waiting place
    (record { code = code; expected = expected }))
refusals_at answers place aside last stop Nothing w code expected has waits among = quiet has waits
refusals_at answers (UnderWay sent) aside last stop Once w code expected has waits among =
    refuses_request answers sent aside last stop Once w false code expected has waits waits
    (was_given answers sent code expected w.since has.given among)
refusals_at answers (UnderWay sent) aside last stop Again w code expected has waits among =
    refuses_request answers sent aside last stop Again w true code expected has waits waits
    (was_given answers sent code expected w.since has.given among)
refusals_at answers (UnderWay sent) aside last stop (Kept untried again) w code expected has waits among =
    refuses_probe answers sent aside last stop untried again w code expected has waits
refusals_at answers place aside last stop Number w code expected has waits among =
    either (HoldsIn answers) (AwaitsIn answers) (of_parts place aside last stop Number) w (code == 11) _ _
    (λ t. resumes answers place aside last stop w expected has) (λ t. shows (Unsure code) has tt)
refusals_at answers place aside last stop waiting w code expected has waits among = elim waits [ ]

patience : (answers : List Reply) (place : Place) (aside : List ℕ) (last : Option Answered) (stop : Option Stop)
    (waiting : Waiting) (w : World) → HoldsIn answers (of_parts place aside last stop waiting).file w
    → AwaitsIn answers (of_parts place aside last stop waiting) w
    → Lasting answers (of_parts place aside last stop waiting) w
    (patience_step (of_parts place aside last stop waiting))
patience answers place aside last stop Nothing w has waits = quiet has waits
patience answers place aside last stop waiting w has waits = shows Waits has waits

events : (answers : List Reply) (place : Place) (aside : List ℕ) (last : Option Answered) (stop : Option Stop)
    (waiting : Waiting) (w : World) (event : Event)
    → HoldsIn answers (of_parts place aside last stop waiting).file w
    → AwaitsIn answers (of_parts place aside last stop waiting) w
    → MayBefall (record w { station = of_parts place aside last stop waiting }) event
    → Lasting answers (of_parts place aside last stop waiting) (noted event w)
    (step_of (of_parts place aside last stop waiting) event)
events answers place aside last stop waiting w Start has waits heard =
    starts answers place aside last stop waiting w has
events answers place aside last stop waiting w (Want request) has waits heard =
    wants answers place aside last stop waiting w request has waits
events answers place aside last stop waiting w (Accept reply) has waits heard =
    replies answers place aside last stop waiting w reply has waits
events answers place aside last stop waiting w (Refuse code expected) has waits heard =
    either (HoldsIn answers) (AwaitsIn answers) (of_parts place aside last stop waiting) w (code == 50) _ _
    (λ t. silences answers place aside last stop waiting w has waits)
    (λ t. refusals_at answers place aside last stop waiting w code expected has waits heard)
events answers place aside last stop waiting w Miss has waits heard =
    silences answers place aside last stop waiting w has waits
events answers place aside last stop waiting w GiveUp has waits heard =
    patience answers place aside last stop waiting w has waits
events answers place aside last stop waiting w Look has waits heard =
    record { lasts = (has, sends has); waits = tt }

-- what holds between two moves
pub record HasAllRefusals (answers : List Reply) (w : World) : Type 0 where
  pub holds : HoldsIn answers w.station.file w
  pub waits : AwaitsIn answers w.station w

lasting_of : (answers : List Reply) (w : World) (event : Event) → HasAllRefusals answers w → MayBefall w event
    → Lasting answers w.station (noted event w) (step_of w.station event)
lasting_of answers w event is heard = events answers w.station.file.place w.station.file.aside w.station.file.last
    w.station.file.stop w.station.waiting w event is.holds is.waits heard

-- what is heard, if something is, is an answer
abbrev pub Hears : World → Move → Type 0
Hears w (befalls event) = MayBefall w event
Hears w (stops event count) = MayBefall w event
Hears w move = Unit {0}

hears : (first : ℕ) (w : World) (move : Move) → MayHappen first w move → Hears w move
hears first w (befalls event) may = may
hears first w (stops event count) may = may
hears first w (serves sent answer books) may = tt
hears first w (says code expected) may = tt
hears first w (takes entry) may = tt

pub refusals_kept : (answers : List Reply) (w : World) (move : Move)
    → ((reply : Reply) → IsAmong reply (answers_in (move ∷ [])) → IsAmong reply answers) → HasAllRefusals answers w
    → Hears w move → HasAllRefusals answers (after_move move w)
refusals_kept answers w (befalls event) gives is may =
    let lasting = lasting_of answers w event is may in
    record {
      holds = step_holds (HoldsIn answers) (AwaitsIn answers) w.station (noted event w) (step_of w.station event)
          (step_safe w.station event) lasting;
      waits = lasting.waits;
    }
refusals_kept answers w (stops event count) gives is may =
    let step = step_of w.station event in
    let lasting = lasting_of answers w event is may in
    record {
      holds = cut_holds (HoldsIn answers) w.station.file step.left.file step.acts (noted event w) count lasting.lasts;
      waits = tt;
    }
refusals_kept answers w (serves sent answer books) gives is may = record {
  holds = record { lines = is.holds.lines; given = given };
  waits = is.waits;
} where
  given : AreGiven answers (record { to = Some sent; answer = answer } ∷ w.since)
  given reply to (inl e) is_to = gives reply (inl e)
  given reply to (inr among) is_to = is.holds.given reply to among is_to
refusals_kept answers w (says code expected) gives is may = record {
  holds = record { lines = is.holds.lines; given = given };
  waits = is.waits;
} where
  given : AreGiven answers (record { to = None; answer = refuses code expected } ∷ w.since)
  given reply to (inl e) is_to = absurd (cc)
  given reply to (inr among) is_to = is.holds.given reply to among is_to
refusals_kept answers w (takes entry) gives is may = record { holds = is.holds; waits = is.waits }

-- an answer at first is one of all, and a later one
first_given : (move : Move) (moves : List Move) (reply : Reply) → IsAmong reply (answers_in (move ∷ []))
    → IsAmong reply (answers_in (move ∷ moves))
first_given (serves sent answer books) moves reply (inl e) = inl e
first_given (serves sent answer books) moves reply (inr among) = elim among [ ]
first_given (befalls event) moves reply among = elim among [ ]
first_given (stops event count) moves reply among = elim among [ ]
first_given (says code expected) moves reply among = elim among [ ]
first_given (takes entry) moves reply among = elim among [ ]

later_given : (move : Move) (moves : List Move) (reply : Reply) → IsAmong reply (answers_in moves)
    → IsAmong reply (answers_in (move ∷ moves))
later_given (serves sent answer books) moves reply among = inr among
later_given (befalls event) moves reply among = among
later_given (stops event count) moves reply among = among
later_given (says code expected) moves reply among = among
later_given (takes entry) moves reply among = among

pub refusals_begin : (answers : List Reply) → HasAllRefusals answers beginning
refusals_begin answers =
    record { holds = record { lines = tt; given = λ reply sent among. elim among [ ] }; waits = tt }

moves_kept : (answers : List Reply) (first : ℕ) (w : World) (moves : List Move)
    → ((reply : Reply) → IsAmong reply (answers_in moves) → IsAmong reply answers) → HasAllRefusals answers w
    → IsRun first w moves → HasAllRefusals answers (after_moves moves w)
moves_kept answers first w [] gives is run = is
moves_kept answers first w (move ∷ moves) gives is run =
    moves_kept answers first (after_move move w) moves
    (λ reply among. gives reply (later_given move moves reply among))
    (refusals_kept answers w move (λ reply among. gives reply (first_given move moves reply among)) is
    (hears first w move run.0)) run.1

-- the law
pub run_refused : (first : ℕ) (moves : List Move) → IsRun first beginning moves
    → WereRefused (answers_in moves) (after_moves moves beginning).log
run_refused first moves run =
    let is = moves_kept (answers_in moves) first beginning moves (λ reply among. among) (refusals_begin (answers_in moves)) run in
    is.holds.lines
