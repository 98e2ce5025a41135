-- A run keeps what holds.
use Rattle.std.proofs.Common.{◌≡◌, ◌⊎◌, ◌∙◌, ℕ, List, [], ◌∷◌, take, Option, None, Some, refl, sym, ap, subst, inl, inr}
use Rattle.seat_core.specs.declared.event.Event.{Event}
use Rattle.seat_core.specs.declared.event.Event.TheVariants.{Start, Want, Accept, Refuse, Miss, GiveUp, Look}
use Rattle.seat_core.specs.declared.request.Answered.{Answered}
use Rattle.seat_core.specs.declared.request.Stop.{Stop}
use Rattle.seat_core.specs.declared.station.Place.{Place}
use Rattle.seat_core.specs.declared.station.Place.TheVariants.{Unknown, Free, UnderWay}
use Rattle.seat_core.specs.declared.station.Station.{Station}
use Rattle.seat_core.specs.declared.station.Waiting.{Waiting}
use Rattle.seat_core.specs.declared.station.Waiting.TheVariants.{Nothing}
use Rattle.seat_core.specs.declared.act.Act.{Act}
use Rattle.seat_core.specs.declared.act.Act.TheVariants.{AskNumber, LogNumber, LogOutcome, LogRequest, Send, Tell}
use Rattle.seat_core.specs.declared.act.Trouble.TheVariants.{Waits}
use Rattle.seat_core.specs.declared.request.Outcome.TheVariants.{Done}
use Rattle.seat_core.specs.Prelude.{step_of}
use Rattle.seat_core.specs.Replies.{patience_step}
use Rattle.seat_core.proofs.Safe.{step_safe}
use Rattle.seat_laws.specs.Served.{IsInOrder}
use Rattle.seat_laws.specs.Runs.{HasRoom, IsAlone, IsAmong, IsNoLook, IsRun, IsUnaided, KeepsAll, MayBefall, MayHappen, Move, World}
use Rattle.seat_laws.specs.Runs.{after_acts, after_move, after_moves, beginning, befalls, noted}
use Rattle.seat_laws.specs.Runs.{says, serves, stops, takes}
use Rattle.seat_laws.specs.Concludes.{Concludes, IsOneMore, IsPending, done_in}
use Rattle.seat_laws.proofs.Told.{told_placed}
use Rattle.seat_laws.proofs.Standing.{IsAhead, IsBehind}
use Rattle.seat_laws.proofs.Serving.{HoldsIn, IsPlaced, IsSettled, WaitsIn, settled_said, settled_served}
use Rattle.seat_laws.proofs.Acting.{cut_holds, quiet, shows, step_holds}
use Rattle.seat_laws.proofs.Events.{After, at, replies, silences, starts, wants}
use Rattle.seat_laws.proofs.Refused.{refusals}

-- the acts of a step leave the books
pub same_books : (acts : List Act) (w : World) → (after_acts acts w).books ≡ w.books
same_books [] w = refl
same_books (LogRequest sent ∷ acts) w = same_books acts _
same_books (LogOutcome number outcome ∷ acts) w = same_books acts _
same_books (LogNumber number ∷ acts) w = same_books acts _
same_books (Send sent ∷ acts) w = same_books acts _
same_books (AskNumber ∷ acts) w = same_books acts _
same_books (Tell request (Done reply) ∷ acts) w = same_books acts _
same_books (act ∷ acts) w = same_books acts w

patience : (first : ℕ) (place : Place) (aside : List ℕ) (last : Option Answered) (waiting : Waiting) (w : World)
    → HoldsIn first (at place aside last waiting).file w → WaitsIn first (at place aside last waiting) w
    → After first (at place aside last waiting) w (patience_step (at place aside last waiting))
patience first place aside last Nothing w holds waits = quiet holds waits
patience first place aside last waiting w holds waits = shows Waits holds waits

events : (first : ℕ) (place : Place) (aside : List ℕ) (last : Option Answered) (waiting : Waiting) (w : World)
    (event : Event) → IsInOrder first w.books → HoldsIn first (at place aside last waiting).file w
    → WaitsIn first (at place aside last waiting) w → HasRoom place aside
    → MayBefall (record w { station = at place aside last waiting }) event → IsNoLook event
    → After first (at place aside last waiting) (noted event w) (step_of (at place aside last waiting) event)
events first place aside last waiting w Start order holds waits room heard no_look =
    starts first place aside last waiting w holds
events first place aside last waiting w (Want request) order holds waits room heard no_look =
    wants first place aside last waiting (noted (Want request) w) request holds waits
events first place aside last waiting w (Accept reply) order holds waits room heard no_look =
    replies first place aside last waiting w reply order holds waits heard
events first place aside last waiting w (Refuse code expected) order holds waits room heard no_look =
    refusals first place aside last waiting w code expected holds waits room heard
events first place aside last waiting w Miss order holds waits room heard no_look =
    silences first place aside last waiting w holds waits
events first place aside last waiting w GiveUp order holds waits room heard no_look =
    patience first place aside last waiting w holds waits
events first place aside last waiting w Look order holds waits room heard no_look = elim no_look [ ]

event_after : (first : ℕ) (place : Place) (aside : List ℕ) (last : Option Answered) (stop : Option Stop)
    (waiting : Waiting) (w : World) (event : Event)
    → let s : Station = record {
      file = record { place = place; aside = aside; last = last; stop = stop };
      waiting = waiting;
    } in
    IsInOrder first w.books → HoldsIn first s.file w → WaitsIn first s w → HasRoom place aside
    → MayBefall (record w { station = s }) event → IsNoLook event → After first s (noted event w) (step_of s event)
event_after first place aside last None waiting w event order holds waits room heard no_look =
    events first place aside last waiting w event order holds waits room heard no_look
event_after first place aside last (Some stop) waiting w event order holds waits room heard no_look =
    let none = holds.stop in absurd (cc)

after_of : (first : ℕ) (w : World) (event : Event) → IsSettled first w
    → HasRoom w.station.file.place w.station.file.aside → MayBefall w event → IsNoLook event
    → After first w.station (noted event w) (step_of w.station event)
after_of first w event is room heard no_look = event_after first w.station.file.place w.station.file.aside
    w.station.file.last w.station.file.stop w.station.waiting w event is.order is.holds is.waits room heard no_look

pub move_settled : (first : ℕ) (w : World) (move : Move) → IsSettled first w
    → HasRoom w.station.file.place w.station.file.aside → MayHappen first w move → IsAlone (move ∷ [])
    → IsUnaided (move ∷ []) → IsSettled first (after_move move w)
move_settled first w (befalls event) is room may alone unaided =
    let step = step_of w.station event in
    let after = after_of first w event is room may unaided.0 in
    record {
      order = rw (same_books step.acts (noted event w)) is.order;
      own = rw (same_books step.acts (noted event w)) is.own;
      holds = step_holds (HoldsIn first) (WaitsIn first) w.station (noted event w) step (step_safe w.station event) after;
      waits = after.waits;
    }
move_settled first w (stops event count) is room may alone unaided =
    let step = step_of w.station event in
    let after = after_of first w event is room may unaided.0 in
    record {
      order = rw (same_books (take count step.acts) (noted event w)) is.order;
      own = rw (same_books (take count step.acts) (noted event w)) is.own;
      holds = cut_holds (HoldsIn first) w.station.file step.left.file step.acts (noted event w) count after.lasts;
      waits = tt;
    }
move_settled first w (serves sent answer books) is room may alone unaided =
    settled_served first w sent answer books is may.0 may.1
move_settled first w (says code expected) is room may alone unaided = settled_said first w code expected is may
move_settled first w (takes entry) is room may alone unaided = elim alone [ ]

-- nobody else does this, nor what comes later
alone_first : (move : Move) (moves : List Move) → IsAlone (move ∷ moves) → IsAlone (move ∷ []) × IsAlone moves
alone_first (takes entry) moves alone = elim alone [ ]
alone_first (befalls event) moves alone = (tt, alone)
alone_first (stops event count) moves alone = (tt, alone)
alone_first (serves sent answer books) moves alone = (tt, alone)
alone_first (says code expected) moves alone = (tt, alone)

-- no person has the station go on with this, nor later
pub unaided_first : (move : Move) (moves : List Move) → IsUnaided (move ∷ moves)
    → IsUnaided (move ∷ []) × IsUnaided moves
unaided_first (befalls event) moves unaided = ((unaided.0, tt), unaided.1)
unaided_first (stops event count) moves unaided = ((unaided.0, tt), unaided.1)
unaided_first (serves sent answer books) moves unaided = (tt, unaided)
unaided_first (says code expected) moves unaided = (tt, unaided)
unaided_first (takes entry) moves unaided = (tt, unaided)

run_settled : (first : ℕ) (w : World) (moves : List Move) → IsSettled first w → IsRun first w moves
    → IsAlone moves → IsUnaided moves → KeepsAll w moves → IsSettled first (after_moves moves w)
run_settled first w [] is run alone unaided keeps = is
run_settled first w (move ∷ moves) is run alone unaided keeps =
    let only = alone_first move moves alone in
    let own = unaided_first move moves unaided in
    run_settled first (after_move move w) moves (move_settled first w move is keeps.0 run.0 only.0 own.0)
    run.1 only.1 own.1 keeps.1

pub begins : (first : ℕ) → IsSettled first beginning
begins first = record {
  order = tt;
  own = tt;
  holds = record {
    stop = refl;
    placed = record { none_aside = refl; none_done = refl; none_sent = refl; none_accepted = refl };
    told_done = tt;
  };
  waits = tt;
}

logs : (w : World) (first number : ℕ) (pending : List ℕ)
    → ((x : ℕ) → IsAmong x pending → IsPending w.station.file.place w.station.file.aside number x)
    → IsAhead first number (done_in w.log) w.books ⊎ IsBehind number pending (done_in w.log) w.books
    → (w.books ≡ done_in w.log) ⊎ IsOneMore w
logs w first number pending is (inl ahead) = inl ahead.logged
logs w first number pending is (inr behind) = logs_behind behind.logged where
  logs_behind : (behind.older ≡ done_in w.log) ⊎ (w.books ≡ done_in w.log) → (w.books ≡ done_in w.log) ⊎ IsOneMore w
  logs_behind (inr e) = inl e
  logs_behind (inl e) = inr (record {
    entry = behind.newest;
    books = behind.are ∙ ap (λ b. behind.newest ∷ b) e;
    pending = subst (λ n. IsPending w.station.file.place w.station.file.aside n behind.newest.request)
        (sym behind.is) (is behind.newest.request behind.among);
  })

pub books_of : (first : ℕ) (w : World) (place : Place) → w.station.file.place ≡ place
    → IsPlaced first place w.station.file.aside (done_in w.log) w.sent w.books
    → (w.books ≡ done_in w.log) ⊎ IsOneMore w
books_of first w Unknown e placed = inl (placed.none_accepted ∙ sym placed.none_done)
books_of first w (Free number) e placed = logs w first number w.station.file.aside
    (λ x among. subst (λ p. IsPending p w.station.file.aside number x) (sym e) (refl, among)) placed.stands
books_of first w (UnderWay sent) e placed = logs w first sent.number (sent.request ∷ w.station.file.aside)
    (λ x among. subst (λ p. IsPending p w.station.file.aside sent.number x) (sym e) (refl, among)) placed.stands

-- the law
pub run_concludes : (first : ℕ) (moves : List Move) → IsRun first beginning moves → IsAlone moves
    → IsUnaided moves → KeepsAll beginning moves → Concludes first (after_moves moves beginning)
run_concludes first moves run alone unaided keeps =
    let w = after_moves moves beginning in
    let is = run_settled first beginning moves (begins first) run alone unaided keeps in
    record {
      books = books_of first w w.station.file.place refl is.holds.placed;
      once = is.order;
      told = told_placed w.station.file.place w.books w.told is.holds.told_done;
      goes_on = is.holds.stop;
    }
