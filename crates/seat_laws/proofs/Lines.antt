-- What was sent has a line in the log, whatever befalls the station and whatever it hears.
use Rattle.std.proofs.Common.{◌≡◌, ℕ, ◌-◌, Bool, true, false, List, [], ◌∷◌, length, Option, None, Some}
use Rattle.std.proofs.Common.{refl, sym, subst, inl, inr}
use Rattle.std.specs.Prelude.{◌==◌, ◌&&◌, nat_lt}
use Rattle.seat_core.specs.declared.act.Act.{Act}
use Rattle.seat_core.specs.declared.act.Act.TheVariants.{LogOutcome, LogRequest}
use Rattle.seat_core.specs.declared.act.Trouble.TheVariants.{Busy, Stopped, Unsure, Waits}
use Rattle.seat_core.specs.declared.event.Event.{Event}
use Rattle.seat_core.specs.declared.event.Event.TheVariants.{Start, Want, Accept, Refuse, Miss, GiveUp, Look}
use Rattle.seat_core.specs.declared.request.Answered.{Answered}
use Rattle.seat_core.specs.declared.request.Outcome.TheVariants.{Done, NotDone}
use Rattle.seat_core.specs.declared.request.Sent.{Sent}
use Rattle.seat_core.specs.declared.request.Stop.{Stop}
use Rattle.seat_core.specs.declared.station.Place.{Place}
use Rattle.seat_core.specs.declared.station.Place.TheVariants.{Unknown, Free, UnderWay}
use Rattle.seat_core.specs.declared.station.SeatFile.{SeatFile}
use Rattle.seat_core.specs.declared.station.Station.{Station}
use Rattle.seat_core.specs.declared.station.Waiting.{Waiting}
use Rattle.seat_core.specs.declared.station.Waiting.TheVariants.{Nothing, Once, Again, Kept, Number}
use Rattle.seat_core.specs.Aside.{aside_with}
use Rattle.seat_core.specs.Steps.{Step, number_after}
use Rattle.seat_core.specs.Starts.{number_step, request_step, start_step}
use Rattle.seat_core.specs.Replies.{completion, late_copy, patience_step, probe_reply, probe_silence, reply_step, silence_step, untried_request}
use Rattle.seat_core.specs.Refusals.{aside_step, probe_of, probe_refusal, probe_step, refusal_at, request_refusal, stop_step}
use Rattle.seat_core.specs.Events.{step_of}
use Rattle.seat_core.proofs.Safe.{step_safe}
use Rattle.seat_laws.specs.Runs.{IsAmong, IsNoLook, IsUnaided, Move, World, after_move, after_moves, beginning, befalls, noted}
use Rattle.seat_laws.specs.Runs.{says, serves, stops, takes}
use Rattle.seat_laws.specs.Concludes.{IsLogged}
use Rattle.seat_laws.proofs.Among.{at_index}
use Rattle.seat_laws.proofs.Acting.{Keeps, cut_holds, either, quiet, shows, step_holds}
use Rattle.seat_laws.proofs.Counts.{aside_among}
use Rattle.seat_laws.proofs.Counting.{of_parts}
use Rattle.seat_laws.proofs.Running.{unaided_first}

-- each of these has a line with this number
abbrev pub HaveLines : ℕ → List ℕ → List Act → Type 0
HaveLines number aside log = (x : ℕ) → IsAmong x aside
    → IsAmong (LogRequest (record { number = number; request = x })) log

abbrev pub AsideAt : Place → List ℕ → List Act → Type 0
AsideAt Unknown aside log = aside ≡ []
AsideAt (Free number) aside log = HaveLines number aside log
AsideAt (UnderWay sent) aside log = HaveLines sent.number aside log

-- what was sent, and what is kept aside, has its line
pub record HasLines (place : Place) (aside : List ℕ) (sents : List Sent) (log : List Act) : Type 0 where
  pub sent : (s : Sent) → IsAmong s sents → IsAmong (LogRequest s) log
  pub kept : AsideAt place aside log

abbrev pub LinesIn : SeatFile → World → Type 0
LinesIn f w = HasLines f.place f.aside w.sent w.log

-- what a reply is waited for has its line
abbrev pub WaitsAt : Waiting → Place → List Act → Type 0
WaitsAt Nothing place log = Unit {0}
WaitsAt Once (UnderWay sent) log = IsAmong (LogRequest sent) log
WaitsAt Again (UnderWay sent) log = IsAmong (LogRequest sent) log
WaitsAt (Kept untried again) (UnderWay sent) log = IsAmong (LogRequest sent) log
WaitsAt Number Unknown log = Unit {0}
WaitsAt waiting place log = ⊥

abbrev pub AwaitsIn : Station → World → Type 0
AwaitsIn s w = WaitsAt s.waiting s.file.place w.log

abbrev Lasting : Station → World → Step → Type 0
Lasting s w step = Keeps LinesIn AwaitsIn s w step

kept_more : (place : Place) (aside : List ℕ) (log : List Act) (act : Act) → AsideAt place aside log
    → AsideAt place aside (act ∷ log)
kept_more Unknown aside log act kept = kept
kept_more (Free number) aside log act kept = λ x among. inr (kept x among)
kept_more (UnderWay sent) aside log act kept = λ x among. inr (kept x among)

-- one more line
more : {place : Place} {aside : List ℕ} {sents : List Sent} {log : List Act} → (act : Act)
    → HasLines place aside sents log → HasLines place aside sents (act ∷ log)
more {place} {aside} {sents} {log} act has = record {
  sent = λ s among. inr (has.sent s among);
  kept = kept_more place aside log act has.kept;
}

-- what has its line is sent
sends : {place : Place} {aside : List ℕ} {sents : List Sent} {log : List Act} → (sent : Sent)
    → IsAmong (LogRequest sent) log → HasLines place aside sents log → HasLines place aside (sent ∷ sents) log
sends {place} {aside} {sents} {log} sent line has = record { sent = lines; kept = has.kept } where
  lines : (s : Sent) → IsAmong s (sent ∷ sents) → IsAmong (LogRequest s) log
  lines s (inl e) = subst (λ t. IsAmong (LogRequest t) log) (sym e) line
  lines s (inr among) = has.sent s among

-- nothing is kept aside any more
ends : {place : Place} {aside : List ℕ} {sents : List Sent} {log : List Act} → (number : ℕ)
    → HasLines place aside sents log → HasLines (Free number) [] sents log
ends number has = record { sent = has.sent; kept = λ x among. elim among [ ] }

goes_on : {number : ℕ} {aside : List ℕ} {sents : List Sent} {log : List Act} → (request : ℕ)
    → HasLines (Free number) aside sents log
    → HasLines (UnderWay (record { number = number; request = request })) aside sents log
goes_on request has = record { sent = has.sent; kept = has.kept }

-- the request under way is kept aside too
asides_line : {sent : Sent} {aside : List ℕ} {sents : List Sent} {log : List Act} → (act : Act)
    → IsAmong (LogRequest sent) log → HasLines (UnderWay sent) aside sents log
    → HasLines (Free sent.number) (aside_with sent.request aside) sents (act ∷ log)
asides_line {sent} {aside} {sents} {log} act line has = record {
  sent = λ s among. inr (has.sent s among);
  kept = λ x among. inr (kept x (aside_among sent.request x aside among));
} where
  kept : (x : ℕ) → IsAmong x (sent.request ∷ aside)
      → IsAmong (LogRequest (record { number = sent.number; request = x })) log
  kept x (inl e) =
      subst (λ r. IsAmong (LogRequest (record { number = sent.number; request = r })) log) (sym e) line
  kept x (inr among) = has.kept x among

-- it starts
starts : (place : Place) (aside : List ℕ) (last : Option Answered) (stop : Option Stop) (waiting : Waiting)
    (w : World) → LinesIn (of_parts place aside last stop waiting).file w
    → Lasting (of_parts place aside last stop waiting) w (start_step (of_parts place aside last stop waiting))
starts place aside last (Some stop) waiting w has = record { lasts = (has, has); waits = tt }
starts Unknown aside last None waiting w has = record { lasts = (has, has); waits = tt }
starts (Free number) aside last None waiting w has = record { lasts = has; waits = tt }
starts (UnderWay sent) aside last None waiting w has =
    let line = more (LogRequest sent) has in
    record { lasts = (has, (line, sends sent (inl refl) line)); waits = inl refl }

-- a request is wanted
wants : (place : Place) (aside : List ℕ) (last : Option Answered) (stop : Option Stop) (waiting : Waiting)
    (w : World) (request : ℕ) → LinesIn (of_parts place aside last stop waiting).file w
    → AwaitsIn (of_parts place aside last stop waiting) w
    → Lasting (of_parts place aside last stop waiting) (noted (Want request) w)
    (request_step (of_parts place aside last stop waiting) request)
wants place aside last (Some stop) waiting w request has waits = shows (Stopped stop) has waits
wants (Free number) aside last None Nothing w request has waits =
    let sent : Sent = record { number = number; request = request } in
    let now = goes_on request has in
    let line = more (LogRequest sent) now in
    record { lasts = (has, (now, (line, sends sent (inl refl) line))); waits = inl refl }
wants place aside last None waiting w request has waits = shows Busy has waits

completes : (sent : Sent) (aside : List ℕ) (last : Option Answered) (stop : Option Stop) (waiting : Waiting)
    (w : World) (reply : ℕ) → LinesIn (of_parts (UnderWay sent) aside last stop waiting).file w
    → Lasting (of_parts (UnderWay sent) aside last stop waiting) w
    (completion (of_parts (UnderWay sent) aside last stop waiting) sent reply)
completes sent aside last stop waiting w reply has =
    let line = more (LogOutcome sent.number (Done reply)) has in
    let now = ends (number_after sent.number) line in
    record { lasts = (has, (line, (now, now))); waits = tt }

finds : (sent : Sent) (aside : List ℕ) (last : Option Answered) (stop : Option Stop) (waiting : Waiting)
    (w : World) (reply request : ℕ) → LinesIn (of_parts (UnderWay sent) aside last stop waiting).file w
    → Lasting (of_parts (UnderWay sent) aside last stop waiting) w
    (late_copy (of_parts (UnderWay sent) aside last stop waiting) sent
    (record { number = number_after sent.number; request = sent.request }) request reply)
finds sent aside last stop waiting w reply request has =
    let next : Sent = record { number = number_after sent.number; request = sent.request } in
    let first = more (LogOutcome sent.number (NotDone 12)) has in
    let second = more (LogRequest (record { number = sent.number; request = request })) first in
    let third = more (LogOutcome sent.number (Done reply)) second in
    let now = goes_on sent.request (ends (number_after sent.number) third) in
    let line = more (LogRequest next) now in
    record {
      lasts = (has, (first, (second, (third, (now, (now, (line, sends next (inl refl) line)))))));
      waits = inl refl;
    }

silences : (place : Place) (aside : List ℕ) (last : Option Answered) (stop : Option Stop) (waiting : Waiting)
    (w : World) → LinesIn (of_parts place aside last stop waiting).file w
    → AwaitsIn (of_parts place aside last stop waiting) w
    → Lasting (of_parts place aside last stop waiting) w (silence_step (of_parts place aside last stop waiting))
silences place aside last stop Nothing w has waits = quiet has waits
silences (UnderWay sent) aside last stop Once w has waits =
    record { lasts = (has, (has, sends sent waits has)); waits = waits }
silences (UnderWay sent) aside last stop Again w has waits =
    record { lasts = (has, (has, sends sent waits has)); waits = waits }
silences (UnderWay sent) aside last stop (Kept untried again) w has waits =
    probes_again (untried_request aside untried) refl where
      probes_again : (found : Option ℕ) → untried_request aside untried ≡ found
          → Lasting (of_parts (UnderWay sent) aside last stop (Kept untried again)) w
          (probe_silence (of_parts (UnderWay sent) aside last stop (Kept untried again)) sent.number found)
      probes_again None e = quiet has waits
      probes_again (Some request) e = record {
        lasts = (
          has,
          (
            has,
            sends (record { number = sent.number; request = request })
                (has.kept request (at_index request aside (length aside - untried) e)) has,
          ),
        );
        waits = waits;
      }
silences Unknown aside last stop Number w has waits = record { lasts = (has, (has, has)); waits = tt }
silences place aside last stop waiting w has waits = elim waits [ ]

replies : (place : Place) (aside : List ℕ) (last : Option Answered) (stop : Option Stop) (waiting : Waiting)
    (w : World) (reply : ℕ) → LinesIn (of_parts place aside last stop waiting).file w
    → AwaitsIn (of_parts place aside last stop waiting) w
    → Lasting (of_parts place aside last stop waiting) w (reply_step (of_parts place aside last stop waiting) reply)
replies place aside last stop Nothing w reply has waits = quiet has waits
replies (UnderWay sent) aside last stop Once w reply has waits = completes sent aside last stop Once w reply has
replies (UnderWay sent) aside last stop Again w reply has waits = completes sent aside last stop Again w reply has
replies (UnderWay sent) aside last stop (Kept untried again) w reply has waits =
    found_at (untried_request aside untried) where
      found_at : (found : Option ℕ)
          → Lasting (of_parts (UnderWay sent) aside last stop (Kept untried again)) w
          (probe_reply (of_parts (UnderWay sent) aside last stop (Kept untried again)) sent reply found)
      found_at None = quiet has waits
      found_at (Some request) = finds sent aside last stop (Kept untried again) w reply request has
replies Unknown aside last stop Number w reply has waits = silences Unknown aside last stop Number w has waits
replies place aside last stop waiting w reply has waits = elim waits [ ]

asides : (sent : Sent) (aside : List ℕ) (last : Option Answered) (stop : Option Stop) (waiting : Waiting)
    (w : World) (code : ℕ) → LinesIn (of_parts (UnderWay sent) aside last stop waiting).file w
    → IsAmong (LogRequest sent) w.log
    → Lasting (of_parts (UnderWay sent) aside last stop waiting) w
    (aside_step (of_parts (UnderWay sent) aside last stop waiting) sent code)
asides sent aside last stop waiting w code has line =
    let act = LogOutcome sent.number (NotDone code) in
    let now = asides_line act line has in
    record { lasts = (has, (more act has, (now, now))); waits = tt }

halts : (sent : Sent) (aside : List ℕ) (last : Option Answered) (stop : Option Stop) (waiting : Waiting)
    (w : World) (again : Bool) (code : ℕ) (why : Stop)
    → LinesIn (of_parts (UnderWay sent) aside last stop waiting).file w → IsAmong (LogRequest sent) w.log
    → Lasting (of_parts (UnderWay sent) aside last stop waiting) w
    (stop_step (of_parts (UnderWay sent) aside last stop waiting) sent again code why)
halts sent aside last stop waiting w true code why has line = record { lasts = (has, (has, has)); waits = tt }
halts sent aside last stop waiting w false code why has line =
    let act = LogOutcome sent.number (NotDone code) in
    let now = asides_line act line has in
    record { lasts = (has, (more act has, (now, now))); waits = tt }

probes : (sent : Sent) (aside : List ℕ) (last : Option Answered) (stop : Option Stop) (waiting : Waiting)
    (w : World) (again : Bool) (untried : ℕ) → LinesIn (of_parts (UnderWay sent) aside last stop waiting).file w
    → IsAmong (LogRequest sent) w.log
    → Lasting (of_parts (UnderWay sent) aside last stop waiting) w
    (probe_step (of_parts (UnderWay sent) aside last stop waiting) sent again untried)
probes sent aside last stop waiting w again untried has line = of (untried_request aside untried) refl where
  of : (found : Option ℕ) → untried_request aside untried ≡ found
      → Lasting (of_parts (UnderWay sent) aside last stop waiting) w
      (probe_of (of_parts (UnderWay sent) aside last stop waiting) sent again untried found)
  of None e = halts sent aside last stop waiting w again 12 (record { code = 12; expected = 0 }) has line
  of (Some request) e = record {
    lasts = (
      has,
      sends (record { number = sent.number; request = request })
          (has.kept request (at_index request aside (length aside - untried) e)) has,
    );
    waits = line;
  }

refuses_request : (sent : Sent) (aside : List ℕ) (last : Option Answered) (stop : Option Stop)
    (waiting : Waiting) (w : World) (again : Bool) (refusal : Stop)
    → LinesIn (of_parts (UnderWay sent) aside last stop waiting).file w
    → AwaitsIn (of_parts (UnderWay sent) aside last stop waiting) w → IsAmong (LogRequest sent) w.log
    → Lasting (of_parts (UnderWay sent) aside last stop waiting) w
    (request_refusal (of_parts (UnderWay sent) aside last stop waiting) sent again refusal)
refuses_request sent aside last stop waiting w again refusal has waits line =
    let s = of_parts (UnderWay sent) aside last stop waiting in
    either LinesIn AwaitsIn s w (refusal.code == 11) _ _
    (λ t. halts sent aside last stop waiting w again 11 refusal has line)
    (λ t. either LinesIn AwaitsIn s w (refusal.code == 12) _ _
    (λ t. probes sent aside last stop waiting w again (length aside) has line)
    (λ t. either LinesIn AwaitsIn s w (again && nat_lt refusal.code 11) _ _
    (λ t. shows (Unsure refusal.code) has waits)
    (λ t. asides sent aside last stop waiting w refusal.code has line)))

refuses_probe : (sent : Sent) (aside : List ℕ) (last : Option Answered) (stop : Option Stop) (untried : ℕ)
    (again : Bool) (w : World) (refusal : Stop)
    → LinesIn (of_parts (UnderWay sent) aside last stop (Kept untried again)).file w
    → IsAmong (LogRequest sent) w.log
    → Lasting (of_parts (UnderWay sent) aside last stop (Kept untried again)) w
    (probe_refusal (of_parts (UnderWay sent) aside last stop (Kept untried again)) sent untried again refusal)
refuses_probe sent aside last stop untried again w refusal has line =
    let s = of_parts (UnderWay sent) aside last stop (Kept untried again) in
    either LinesIn AwaitsIn s w (nat_lt refusal.code 11) _ _ (λ t. shows (Unsure refusal.code) has line)
    (λ low. either LinesIn AwaitsIn s w (refusal.code == 12) _ _
    (λ t. probes sent aside last stop (Kept untried again) w again (untried - 1) has line)
    (λ t. halts sent aside last stop (Kept untried again) w again 12 refusal has line))

-- the server says its number
numbers : (aside : List ℕ) (last : Option Answered) (stop : Option Stop) (w : World) (code expected : ℕ)
    → LinesIn (of_parts Unknown aside last stop Number).file w
    → Lasting (of_parts Unknown aside last stop Number) w
    (number_step (of_parts Unknown aside last stop Number) code expected)
numbers aside last stop w code expected has =
    either LinesIn AwaitsIn (of_parts Unknown aside last stop Number) w (code == 11) _ _
    (λ t. record { lasts = (has, record { sent = has.sent; kept = none }); waits = tt })
    (λ t. shows (Unsure code) has tt)
  where
    none : HaveLines expected aside w.log
    none x among = let no : IsAmong x [] = subst (IsAmong x) has.kept among in elim no [ ]

refusals_at : (place : Place) (aside : List ℕ) (last : Option Answered) (stop : Option Stop) (waiting : Waiting)
    (w : World) (refusal : Stop) → LinesIn (of_parts place aside last stop waiting).file w
    → AwaitsIn (of_parts place aside last stop waiting) w
    → Lasting (of_parts place aside last stop waiting) w
    (refusal_at (of_parts place aside last stop waiting) waiting place refusal)
refusals_at place aside last stop Nothing w refusal has waits = quiet has waits
refusals_at (UnderWay sent) aside last stop Once w refusal has waits =
    refuses_request sent aside last stop Once w false refusal has waits waits
refusals_at (UnderWay sent) aside last stop Again w refusal has waits =
    refuses_request sent aside last stop Again w true refusal has waits waits
refusals_at (UnderWay sent) aside last stop (Kept untried again) w refusal has waits =
    refuses_probe sent aside last stop untried again w refusal has waits
refusals_at Unknown aside last stop Number w refusal has waits =
    numbers aside last stop w refusal.code refusal.expected has
refusals_at place aside last stop waiting w refusal has waits = elim waits [ ]

patience : (place : Place) (aside : List ℕ) (last : Option Answered) (stop : Option Stop) (waiting : Waiting)
    (w : World) → LinesIn (of_parts place aside last stop waiting).file w
    → AwaitsIn (of_parts place aside last stop waiting) w
    → Lasting (of_parts place aside last stop waiting) w (patience_step (of_parts place aside last stop waiting))
patience place aside last stop Nothing w has waits = quiet has waits
patience place aside last stop waiting w has waits = shows Waits has waits

events : (place : Place) (aside : List ℕ) (last : Option Answered) (stop : Option Stop) (waiting : Waiting)
    (w : World) (event : Event) → LinesIn (of_parts place aside last stop waiting).file w
    → AwaitsIn (of_parts place aside last stop waiting) w → IsNoLook event
    → Lasting (of_parts place aside last stop waiting) (noted event w)
    (step_of (of_parts place aside last stop waiting) event)
events place aside last stop waiting w Start has waits no_look = starts place aside last stop waiting w has
events place aside last stop waiting w (Want request) has waits no_look =
    wants place aside last stop waiting w request has waits
events place aside last stop waiting w (Accept reply) has waits no_look =
    replies place aside last stop waiting w reply has waits
events place aside last stop waiting w (Refuse code expected) has waits no_look =
    either LinesIn AwaitsIn (of_parts place aside last stop waiting) w (code == 50) _ _
    (λ t. silences place aside last stop waiting w has waits)
    (λ t. refusals_at place aside last stop waiting w (record { code = code; expected = expected }) has waits)
events place aside last stop waiting w Miss has waits no_look = silences place aside last stop waiting w has waits
events place aside last stop waiting w GiveUp has waits no_look = patience place aside last stop waiting w has waits
events place aside last stop waiting w Look has waits no_look = elim no_look [ ]

-- what holds between two moves
pub record HasAllLines (w : World) : Type 0 where
  pub lines : LinesIn w.station.file w
  pub waits : AwaitsIn w.station w

lasting_of : (w : World) (event : Event) → HasAllLines w → IsNoLook event
    → Lasting w.station (noted event w) (step_of w.station event)
lasting_of w event is no_look = events w.station.file.place w.station.file.aside w.station.file.last
    w.station.file.stop w.station.waiting w event is.lines is.waits no_look

pub lines_kept : (w : World) (move : Move) → HasAllLines w → IsUnaided (move ∷ []) → HasAllLines (after_move move w)
lines_kept w (befalls event) is unaided =
    let lasting = lasting_of w event is unaided.0 in
    record {
      lines = step_holds LinesIn AwaitsIn w.station (noted event w) (step_of w.station event)
          (step_safe w.station event) lasting;
      waits = lasting.waits;
    }
lines_kept w (stops event count) is unaided =
    let step = step_of w.station event in
    let lasting = lasting_of w event is unaided.0 in
    record {
      lines = cut_holds LinesIn w.station.file step.left.file step.acts (noted event w) count lasting.lasts;
      waits = tt;
    }
lines_kept w (serves sent answer books) is unaided = record { lines = is.lines; waits = is.waits }
lines_kept w (says code expected) is unaided = record { lines = is.lines; waits = is.waits }
lines_kept w (takes entry) is unaided = record { lines = is.lines; waits = is.waits }

pub lines_begin : HasAllLines beginning
lines_begin = record { lines = record { sent = λ s among. elim among [ ]; kept = refl }; waits = tt }

moves_kept : (w : World) (moves : List Move) → HasAllLines w → IsUnaided moves → HasAllLines (after_moves moves w)
moves_kept w [] is unaided = is
moves_kept w (move ∷ moves) is unaided =
    let own = unaided_first move moves unaided in
    moves_kept (after_move move w) moves (lines_kept w move is own.0) own.1

-- the law
pub moves_logged : (moves : List Move) → IsUnaided moves → IsLogged (after_moves moves beginning)
moves_logged moves unaided =
    let is = moves_kept beginning moves lines_begin unaided in record { line = is.lines.sent }
