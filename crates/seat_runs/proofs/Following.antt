-- The run of a station and the office keeps what holds.
use Rattle.std.proofs.Common.{◌≡◌, ◌+◌, ◌<◌, ◌≤◌, ◌⊎◌, ◌∷◌}
use Rattle.text_core.proofs.Kit.{ℕ, inl, inr, Bool, true, false, cond, List, []}
use Rattle.text_core.proofs.Kit.{refl, sym, ap, subst, bytes_eq, not, AllByRecursion, and_parts, same_text, text_itself, arith}
use Rattle.std.specs.Prelude.{MatchBool, take}
use Rattle.http_replies.specs.Prelude.{Answer as Response, is_unavailable}
use Rattle.office_tables.specs.Prelude.{Tables}
use Rattle.office_commands.specs.Prelude.{refusal, unkept}
use Rattle.office_laws.specs.Prelude.{Exchange, IsRun, Passes, SeatRun, SoloState, Wanted, alone_on, asks}
use Rattle.office_laws.specs.Prelude.{exchanges_of, is_accepted, is_own, seat_named, view}
use Rattle.office_laws.specs.Prelude.{writes}
use Rattle.office_laws.proofs.Acting.{accepts as acceptance_of, last_at, last_grows, unaccepted}
use Rattle.office_laws.proofs.RunLaws.{run_alone}
use Rattle.office_laws.proofs.RunsAlone.{Own, RunsAlone}
use Rattle.std.proofs.lemmas.List.Elements.{All-from_recursion, recursion_from_All, All-weaker}
use Rattle.std.specs.Prelude.{◌==◌, if◌then◌else◌}
use Rattle.text_core.proofs.Kit.{Option, None, Some}
use Rattle.seat_core.specs.declared.act.Act.{Act}
use Rattle.seat_core.specs.declared.act.Act.TheVariants.{Send, Tell}
use Rattle.seat_core.specs.declared.request.Outcome.TheVariants.{Done}
use Rattle.seat_laws.specs.Prelude.{IsAmong, after_act, after_acts, entry_of, next_number}
use Rattle.seat_core.specs.declared.event.Event.{Event}
use Rattle.seat_core.specs.declared.request.Sent.{Sent}
use Rattle.seat_core.specs.Prelude.{step_of}
use Rattle.seat_laws.specs.Prelude.{Answer, Concludes, Entry, HasRoom, IsNoLook, MayBefall, MayHappen, World, accepts}
use Rattle.seat_laws.specs.Prelude.{after_move, beginning, noted, refuses}
use Rattle.seat_laws.specs.Runs.{befalls, says, serves, stops}
use Rattle.seat_laws.proofs.Serving.{IsSettled}
use Rattle.seat_laws.proofs.Told.{told_placed}
use Rattle.seat_laws.proofs.Running.{begins, books_of, move_settled, same_books}
use Rattle.seat_runs.specs.Prelude.{AreApart, IsCopy, IsOf, IsQuestion, IsRowOf, IsStationRun, MayTurn, MayTurns, Names, Turn}
use Rattle.seat_runs.specs.Prelude.{after_turn, after_turns, exchanges_in, number_said, with_accepted}
use Rattle.seat_runs.specs.Turns.{copies, halts, meets, others, questions, turned_away}
use Rattle.seat_runs.proofs.Answering.{Follows, IsApart, came_refused, low_not, of_copy, of_refused}
use Rattle.seat_runs.proofs.Asking.{Expects, of_no_question, of_question}

-- one exchange of a run of the customer's own machine, or one that isn't its own
pub record Passed (customer : List ℕ) (x : Exchange) (ys : List Exchange) (s s2 : SoloState) : Type 0 where
  pub mid : SoloState
  pub step : ((is_own customer x ≡ true) × Own s x.0 x.1 mid) ⊎ ((is_own customer x ≡ false) × (mid ≡ s))
  pub later : RunsAlone ys mid s2

passed : (customer : List ℕ) (x : Exchange) (xs : List Exchange) (s s2 : SoloState)
    → RunsAlone (exchanges_of customer (x ∷ xs)) s s2 → Passed customer x (exchanges_of customer xs) s s2
passed customer x xs s s2 run = by (is_own customer x) refl run
  where
    by : (b : Bool) → is_own customer x ≡ b
        → RunsAlone (cond b (x ∷ exchanges_of customer xs) (exchanges_of customer xs)) s s2
        → Passed customer x (exchanges_of customer xs) s s2
    by true is run = record { mid = run.0; step = inl (is, run.1); later = run.2 }
    by false is run = record { mid = s; step = inr (is, refl); later = run }

-- a seat's last number never falls
step_last : (seat : List ℕ) (x : Exchange) (s mid : SoloState) → Own s x.0 x.1 mid → last_at seat s ≤ last_at seat mid
step_last seat x s mid own = by (is_accepted x) refl
  where
    by : (b : Bool) → is_accepted x ≡ b → last_at seat s ≤ last_at seat mid
    by true is = last_grows x s mid seat (acceptance_of x s mid own is)
    by false is = let e : mid ≡ s = unaccepted x s mid own is in rw e (omega arith)

pub run_last : (seat : List ℕ) (xs : List Exchange) (s s2 : SoloState) → RunsAlone xs s s2
    → last_at seat s ≤ last_at seat s2
run_last seat [] s s2 run = rw run (omega arith)
run_last seat (x ∷ xs) s s2 run =
    let a = step_last seat x s run.0 run.1 in
    let b = run_last seat xs run.0 s2 run.2 in omega arith

-- 503 is a constant
abbrev pub IsUnkept : Exchange → Type 0
IsUnkept x = is_unavailable x.1.status ≡ true → x.1 ≡ refusal unkept

pub passes_unkept : (x : Exchange) (t mid : Tables) → Passes t x.0 x.1 mid → IsUnkept x
passes_unkept x t mid passes is = by (is_unavailable x.1.status) is _ passes
  where
    by : (b : Bool) → b ≡ true → (P : Type 0) → MatchBool b ((x.1 ≡ refusal unkept) × (mid ≡ t)) P
        → x.1 ≡ refusal unkept
    by true e P passes = passes.0
    by false e P passes = cc

run_unkept : (xs : List Exchange) (t t2 : Tables) → IsRun xs t t2 → AllByRecursion IsUnkept xs
run_unkept [] t t2 run = tt
run_unkept (x ∷ xs) t t2 run = (passes_unkept x t run.0 run.1, run_unkept xs run.0 t2 run.2)

-- one of the customer's that isn't its own was answered 503
pub not_own : (customer : List ℕ) (x : Exchange) → x.0.section.name ≡ customer → is_own customer x ≡ false
    → is_unavailable x.1.status ≡ true
not_own customer x is own = by (is_unavailable x.1.status) refl
  where
    by : (b : Bool) → is_unavailable x.1.status ≡ b → b ≡ true
    by true e = refl
    by false e =
        let t : bytes_eq customer x.0.section.name ≡ true = text_itself customer x.0.section.name (sym is) in cc

-- a copy that was sent comes to the office
copy_follows : (v : Names) (customer seat : List ℕ) (first : ℕ) (sent : Sent) (x : Exchange) (books : List Entry)
    (s mid : SoloState) → IsApart v first sent books → IsOf customer seat x → IsCopy v sent x.0.wanted → Own s x.0 x.1 mid
    → IsRowOf v first (seat_named seat s) books → last_at seat mid + 1 < 9007199254740991
    → Follows v first sent books (v.read x.1) (with_accepted first sent (v.read x.1) books) (seat_named seat mid)
copy_follows v customer seat first sent x books s mid apart is (inl e) own row few =
    let it : ◌≡◌ {A = Response × SoloState} (x.1, mid)
    (alone_on x.0 s (asks (v.request_of sent.request sent.number))) =
    subst (λ (q : Wanted). ◌≡◌ {A = Response × SoloState} (x.1, mid) (alone_on x.0 s q)) e own in
    let at_seat : IsRowOf v first (seat_named x.0.seat s) books =
    subst (λ q. IsRowOf v first (seat_named q s) books) (sym is.1) row in
    let at_most : last_at x.0.seat mid + 1 < 9007199254740991 =
    subst (λ q. last_at q mid + 1 < 9007199254740991) (sym is.1) few in
    subst (λ q. Follows v first sent books (v.read x.1) (with_accepted first sent (v.read x.1) books) (seat_named q mid))
    is.1 (of_copy v first sent x.0.section x.0.seat s mid x.1 books at_seat at_most apart
    (v.request_of sent.request sent.number).command (v.changes sent.request sent.number) it)
copy_follows v customer seat first sent x books s mid apart is (inr came) own row few =
    let it : ◌≡◌ {A = Response × SoloState} (x.1, mid) (refusal came.0, s) =
    subst (λ (q : Wanted). ◌≡◌ {A = Response × SoloState} (x.1, mid) (alone_on x.0 s q)) came.1 own in
    of_refused v first sent x.0.section seat s mid x.1 books row few apart came.0 came.2 it

copy_unkept : (v : Names) (seat : List ℕ) (first : ℕ) (sent : Sent) (x : Exchange) (books : List Entry) (s : SoloState)
    → IsApart v first sent books → x.1 ≡ refusal unkept → IsRowOf v first (seat_named seat s) books → last_at seat s + 1 < 9007199254740991
    → Follows v first sent books (v.read x.1) (with_accepted first sent (v.read x.1) books) (seat_named seat s)
copy_unkept v seat first sent x books s apart e row few =
    of_refused v first sent x.0.section seat s s x.1 books row few apart unkept (inr refl) (ap (λ r. (r, s)) e)

-- the question comes to the office
question_says : (v : Names) (customer seat : List ℕ) (first : ℕ) (x : Exchange) (books : List Entry)
    (s mid : SoloState) → IsOf customer seat x → IsQuestion v x.0.wanted → Own s x.0 x.1 mid
    → IsRowOf v first (seat_named seat s) books → last_at seat s + 1 < 9007199254740991
    → (mid ≡ s) × Expects first books (v.read x.1)
question_says v customer seat first x books s mid is (inl e) own row far =
    let it : ◌≡◌ {A = Response × SoloState} (x.1, mid) (alone_on x.0 s (asks v.question)) =
    subst (λ (q : Wanted). ◌≡◌ {A = Response × SoloState} (x.1, mid) (alone_on x.0 s q)) e own in
    let at_seat : IsRowOf v first (seat_named x.0.seat s) books =
    subst (λ q. IsRowOf v first (seat_named q s) books) (sym is.1) row in
    let at_far : last_at x.0.seat s + 1 < 9007199254740991 =
    subst (λ q. last_at q s + 1 < 9007199254740991) (sym is.1) far in
    of_question v first x.0.section x.0.seat s mid x.1 books at_seat at_far v.question.command v.question_changes it
question_says v customer seat first x books s mid is (inr came) own row far =
    let it : ◌≡◌ {A = Response × SoloState} (x.1, mid) (refusal came.0, s) =
    subst (λ (q : Wanted). ◌≡◌ {A = Response × SoloState} (x.1, mid) (alone_on x.0 s q)) came.1 own in
    of_no_question v first x.0.section seat s mid x.1 books row far came.0 came.2 it

question_unkept : (v : Names) (seat : List ℕ) (first : ℕ) (x : Exchange) (books : List Entry) (s : SoloState)
    → x.1 ≡ refusal unkept → IsRowOf v first (seat_named seat s) books → last_at seat s + 1 < 9007199254740991
    → Expects first books (v.read x.1)
question_unkept v seat first x books s e row far =
    (of_no_question v first x.0.section seat s s x.1 books row far unkept (inr refl) (ap (λ r. (r, s)) e)).1

-- what else the office does leaves the seat's row
seat_apart : (seat other : List ℕ) → (other ≡ seat → ⊥) → bytes_eq seat other ≡ false
seat_apart seat other apart = by (bytes_eq seat other) refl
  where
    by : (b : Bool) → bytes_eq seat other ≡ b → b ≡ false
    by true e = absurd (apart (sym (same_text seat other e)))
    by false e = refl

no_write : (x : Exchange) → writes x.0.wanted ≡ false → is_accepted x ≡ false
no_write x e = rw e refl

other_stays : (customer seat : List ℕ) (x : Exchange) (s mid : SoloState) → is_own customer x ≡ true
    → Own s x.0 x.1 mid → (IsOf customer seat x → ⊥) ⊎ (writes x.0.wanted ≡ false)
    → seat_named seat mid ≡ seat_named seat s
other_stays customer seat x s mid is own (inr silent) =
    ap (seat_named seat) (unaccepted x s mid own (no_write x silent))
other_stays customer seat x s mid is own (inl other) = by (is_accepted x) refl
  where
    named : customer ≡ x.0.section.name
    named = same_text customer x.0.section.name
        (and_parts (bytes_eq customer x.0.section.name) (not (is_unavailable x.1.status)) is).0

    by : (b : Bool) → is_accepted x ≡ b → seat_named seat mid ≡ seat_named seat s
    by true accepted = (acceptance_of x s mid own accepted).others seat
        (seat_apart seat x.0.seat (λ same. other (sym named, same)))
    by false silent = ap (seat_named seat) (unaccepted x s mid own silent)

-- what is said of the number may be said
said_happens : (first : ℕ) (w : World) (answer : Answer) → Expects first w.books answer
    → MayHappen first w (number_said answer)
said_happens first w (accepts reply) expects = λ e. absurd (omega arith)
said_happens first w (refuses code expected) expects = expects

said_settled : (first : ℕ) (w : World) (answer : Answer) → IsSettled first w
    → HasRoom w.station.file.place w.station.file.aside → Expects first w.books answer
    → IsSettled first (after_move (number_said answer) w)
said_settled first w (accepts reply) is room expects =
    move_settled first w (says 0 0) is room (λ e. absurd (omega arith)) tt tt
said_settled first w (refuses code expected) is room expects =
    move_settled first w (says code expected) is room expects tt tt

pub said_books : (answer : Answer) (w : World) → (after_move (number_said answer) w).books ≡ w.books
said_books (accepts reply) w = refl
said_books (refuses code expected) w = refl

-- the books are of what was sent
abbrev sent_of : Entry → Sent
sent_of entry = record { number = entry.number; request = entry.request }

abbrev pub AreSent : List Sent → List Entry → Type 0
AreSent sents books = AllByRecursion (λ entry. IsAmong (sent_of entry) sents) books

more_sent : (sents more : List Sent) (books : List Entry) → ((s : Sent) → IsAmong s sents → IsAmong s more)
    → AreSent sents books → AreSent more books
more_sent sents more books later are =
    recursion_from_All _ _ (All-weaker (λ entry. IsAmong (sent_of entry) sents) (λ entry. IsAmong (sent_of entry) more)
    (λ entry among. later (sent_of entry) among) _ (All-from_recursion _ books are))

added_sent : (first : ℕ) (sent : Sent) (answer : Answer) (sents : List Sent) (books : List Entry) → IsAmong sent sents
    → AreSent sents books → AreSent sents (with_accepted first sent answer books)
added_sent first sent (refuses code expected) sents books among are = are
added_sent first sent (accepts reply) sents books among are = by (sent.number == next_number first books)
  where
    by : (b : Bool) → AreSent sents (if b then entry_of sent reply ∷ books else books)
    by true = (among, are)
    by false = are

-- what was sent stays sent
acts_sent : (s : Sent) (acts : List Act) (w : World) → IsAmong s w.sent → IsAmong s (after_acts acts w).sent
acts_sent s [] w among = among
acts_sent s (act ∷ acts) w among = acts_sent s acts (after_act act w) (by act)
  where
    by : (act : Act) → IsAmong s (after_act act w).sent
    by (Send sent) = inr among
    by (Tell request (Done reply)) = among
    by _ = among

turn_sent : (v : Names) (first : ℕ) (s : Sent) (turn : Turn) (w : World) → IsAmong s w.sent
    → IsAmong s (after_turn v first turn w).sent
turn_sent v first s (meets event) w among = acts_sent s (step_of w.station event).acts (noted event w) among
turn_sent v first s (halts event count) w among =
    acts_sent s (take count (step_of w.station event).acts) (noted event w) among
turn_sent v first s (copies sent x) w among = among
turn_sent v first s (questions x) w among = by (v.read x.1)
  where
    by : (answer : Answer) → IsAmong s (after_move (number_said answer) w).sent
    by (accepts reply) = among
    by (refuses code expected) = among
turn_sent v first s (turned_away None code) w among = among
turn_sent v first s (turned_away (Some sent) code) w among = among
turn_sent v first s (others x) w among = among

turns_sent : (v : Names) (first : ℕ) (s : Sent) (turns : List Turn) (w : World) → IsAmong s w.sent
    → IsAmong s (after_turns v first turns w).sent
turns_sent v first s [] w among = among
turns_sent v first s (turn ∷ turns) w among =
    turns_sent v first s turns (after_turn v first turn w) (turn_sent v first s turn w among)

-- what is apart in the end is so now
pub apart_now : (v : Names) (first : ℕ) (turns : List Turn) (w : World)
    → AreApart v (after_turns v first turns w).sent → AreApart v w.sent
apart_now v first turns w apart one other a b =
    apart one other (turns_sent v first one turns w a) (turns_sent v first other turns w b)

newest_apart : (v : Names) (first : ℕ) (sent : Sent) (w : World) → AreApart v w.sent → IsAmong sent w.sent
    → AreSent w.sent w.books → IsApart v first sent w.books
newest_apart v first sent w apart among are newest older is digest =
    apart (sent_of newest) sent (subst (AreSent w.sent) is are).0 among digest

said_sent : (answer : Answer) (w : World) → AreSent w.sent w.books
    → AreSent (after_move (number_said answer) w).sent (after_move (number_said answer) w).books
said_sent (accepts reply) w are = are
said_sent (refuses code expected) w are = are

-- what holds between two turns
pub record Holding (v : Names) (seat : List ℕ) (first : ℕ) (w : World) (s : SoloState) : Type 0 where
  pub settled : IsSettled first w
  pub row : IsRowOf v first (seat_named seat s) w.books
  pub are_sent : AreSent w.sent w.books

pub follow_copy : (v : Names) (customer seat : List ℕ) (first : ℕ) (sent : Sent) (x : Exchange) (ys : List Exchange)
    (w : World) (s s2 : SoloState) (step : Passed customer x ys s s2) → Holding v seat first w s
    → HasRoom w.station.file.place w.station.file.aside → IsUnkept x → MayTurn v customer seat w (copies sent x)
    → last_at seat step.mid + 1 < 9007199254740991 → AreApart v w.sent
    → Holding v seat first (after_turn v first (copies sent x) w) step.mid
follow_copy v customer seat first sent x ys w s s2 step holding room kept may few apart =
    let follows = by step.step in
    record {
      settled = move_settled first w (serves sent (v.read x.1) (with_accepted first sent (v.read x.1) w.books))
          holding.settled room (may.0, follows.answers) tt tt;
      row = follows.row_of;
      are_sent = added_sent first sent (v.read x.1) w.sent w.books may.0 holding.are_sent;
    }
  where
    apart_from : IsApart v first sent w.books
    apart_from = newest_apart v first sent w apart may.0 holding.are_sent

    by : ((is_own customer x ≡ true) × Own s x.0 x.1 step.mid) ⊎ ((is_own customer x ≡ false) × (step.mid ≡ s))
        → Follows v first sent w.books (v.read x.1) (with_accepted first sent (v.read x.1) w.books)
        (seat_named seat step.mid)
    by (inl own) = copy_follows v customer seat first sent x w.books s step.mid apart_from may.1 may.2 own.1 holding.row few
    by (inr other) =
        let e = other.1 in
        let at_most : last_at seat s + 1 < 9007199254740991 =
        subst (λ m. last_at seat m + 1 < 9007199254740991) e few in
        subst (λ m. Follows v first sent w.books (v.read x.1) (with_accepted first sent (v.read x.1) w.books)
        (seat_named seat m)) (sym e) (copy_unkept v seat first sent x w.books s apart_from
        (kept (not_own customer x may.1.0 other.0)) holding.row at_most)

pub follow_question : (v : Names) (customer seat : List ℕ) (first : ℕ) (x : Exchange) (ys : List Exchange) (w : World)
    (s s2 : SoloState) (step : Passed customer x ys s s2) → Holding v seat first w s
    → HasRoom w.station.file.place w.station.file.aside → IsUnkept x → MayTurn v customer seat w (questions x)
    → last_at seat s + 1 < 9007199254740991
    → Holding v seat first (after_turn v first (questions x) w) step.mid
follow_question v customer seat first x ys w s s2 step holding room kept may far =
    let told = by step.step in
    record {
      settled = said_settled first w (v.read x.1) holding.settled room told.1;
      row = subst (λ b. IsRowOf v first (seat_named seat step.mid) b) (sym (said_books (v.read x.1) w))
          (subst (λ m. IsRowOf v first (seat_named seat m) w.books) (sym told.0) holding.row);
      are_sent = said_sent (v.read x.1) w holding.are_sent;
    }
  where
    by : ((is_own customer x ≡ true) × Own s x.0 x.1 step.mid) ⊎ ((is_own customer x ≡ false) × (step.mid ≡ s))
        → (step.mid ≡ s) × Expects first w.books (v.read x.1)
    by (inl own) = question_says v customer seat first x w.books s step.mid may.0 may.1 own.1 holding.row far
    by (inr other) = (
      other.1,
      question_unkept v seat first x w.books s (kept (not_own customer x may.0.0 other.0))
          holding.row far,
    )

pub follow_other : (v : Names) (customer seat : List ℕ) (first : ℕ) (x : Exchange) (ys : List Exchange) (w : World)
    (s s2 : SoloState) (step : Passed customer x ys s s2) → Holding v seat first w s
    → MayTurn v customer seat w (others x) → Holding v seat first w step.mid
follow_other v customer seat first x ys w s s2 step holding may = record {
  settled = holding.settled;
  row = subst (λ r. IsRowOf v first r w.books) (sym (by step.step)) holding.row;
  are_sent = holding.are_sent;
}
  where
    by : ((is_own customer x ≡ true) × Own s x.0 x.1 step.mid) ⊎ ((is_own customer x ≡ false) × (step.mid ≡ s))
        → seat_named seat step.mid ≡ seat_named seat s
    by (inl own) = other_stays customer seat x s step.mid own.0 own.1 may
    by (inr other) = ap (seat_named seat) other.1

-- something befalls the station, or stops it
pub meet : (v : Names) (seat : List ℕ) (first : ℕ) (event : Event) (w : World) (s : SoloState)
    → Holding v seat first w s → HasRoom w.station.file.place w.station.file.aside → MayBefall w event × IsNoLook event
    → Holding v seat first (after_turn v first (meets event) w) s
meet v seat first event w s holding room may = record {
  settled = move_settled first w (befalls event) holding.settled room may.0 tt (may.1, tt);
  row = rw (same_books (step_of w.station event).acts (noted event w)) holding.row;
  are_sent = rw (same_books (step_of w.station event).acts (noted event w))
      (more_sent w.sent _ w.books (λ sent among. acts_sent sent (step_of w.station event).acts (noted event w) among)
      holding.are_sent);
}

pub halt : (v : Names) (seat : List ℕ) (first : ℕ) (event : Event) (count : ℕ) (w : World) (s : SoloState)
    → Holding v seat first w s → HasRoom w.station.file.place w.station.file.aside → MayBefall w event × IsNoLook event
    → Holding v seat first (after_turn v first (halts event count) w) s
halt v seat first event count w s holding room may = record {
  settled = move_settled first w (stops event count) holding.settled room may.0 tt (may.1, tt);
  row = rw (same_books (take count (step_of w.station event).acts) (noted event w)) holding.row;
  are_sent = rw (same_books (take count (step_of w.station event).acts) (noted event w))
      (more_sent w.sent _ w.books
      (λ sent among. acts_sent sent (take count (step_of w.station event).acts) (noted event w) among) holding.are_sent);
}

-- what was sent is turned away
pub turn_away : (v : Names) (customer seat : List ℕ) (first : ℕ) (what : Option Sent) (code : ℕ) (w : World)
    (s : SoloState) → Holding v seat first w s → HasRoom w.station.file.place w.station.file.aside
    → MayTurn v customer seat w (turned_away what code)
    → Holding v seat first (after_turn v first (turned_away what code) w) s
turn_away v customer seat first (Some sent) code w s holding room may = record {
  settled = move_settled first w (serves sent (refuses code 0) w.books) holding.settled room
      (may.0, (came_refused v first sent w.books (seat_named seat s) code 0 may.1 holding.row).answers) tt tt;
  row = holding.row;
  are_sent = holding.are_sent;
}
turn_away v customer seat first None code w s holding room may = record {
  settled = move_settled first w (says code 0) holding.settled room
      (λ e. absurd (low_not code 11 may.1 (omega arith) (omega arith) e)) tt tt;
  row = holding.row;
  are_sent = holding.are_sent;
}

follow : (v : Names) (customer seat : List ℕ) (first : ℕ) (turns : List Turn) (w : World) (s s2 : SoloState)
    → Holding v seat first w s → RunsAlone (exchanges_of customer (exchanges_in turns)) s s2
    → last_at seat s2 + 1 < 9007199254740991 → AllByRecursion IsUnkept (exchanges_in turns)
    → AreApart v (after_turns v first turns w).sent
    → MayTurns v customer seat first w turns → Holding v seat first (after_turns v first turns w) s2
follow v customer seat first [] w s s2 holding run far kept apart may =
    subst (Holding v seat first w) (sym run) holding
follow v customer seat first (meets event ∷ turns) w s s2 holding run far kept apart may =
    follow v customer seat first turns (after_turn v first (meets event) w) s s2
    (meet v seat first event w s holding may.0 may.1) run far kept apart may.2
follow v customer seat first (halts event count ∷ turns) w s s2 holding run far kept apart may =
    follow v customer seat first turns (after_turn v first (halts event count) w) s s2
    (halt v seat first event count w s holding may.0 may.1) run far kept apart may.2
follow v customer seat first (copies sent x ∷ turns) w s s2 holding run far kept apart may =
    let step = passed customer x (exchanges_in turns) s s2 run in
    let more = run_last seat (exchanges_of customer (exchanges_in turns)) step.mid s2 step.later in
    follow v customer seat first turns (after_turn v first (copies sent x) w) step.mid s2
    (follow_copy v customer seat first sent x (exchanges_of customer (exchanges_in turns)) w s s2 step holding may.0
    kept.0 may.1 (omega arith) (apart_now v first (copies sent x ∷ turns) w apart)) step.later far kept.1 apart may.2
follow v customer seat first (questions x ∷ turns) w s s2 holding run far kept apart may =
    let step = passed customer x (exchanges_in turns) s s2 run in
    let more = run_last seat (exchanges_of customer (x ∷ exchanges_in turns)) s s2 run in
    follow v customer seat first turns (after_turn v first (questions x) w) step.mid s2
    (follow_question v customer seat first x (exchanges_of customer (exchanges_in turns)) w s s2 step holding may.0
    kept.0 may.1 (omega arith)) step.later far kept.1 apart may.2
follow v customer seat first (turned_away what code ∷ turns) w s s2 holding run far kept apart may =
    follow v customer seat first turns (after_turn v first (turned_away what code) w) s s2
    (turn_away v customer seat first what code w s holding may.0 may.1) run far kept apart may.2
follow v customer seat first (others x ∷ turns) w s s2 holding run far kept apart may =
    let step = passed customer x (exchanges_in turns) s s2 run in
    follow v customer seat first turns w step.mid s2
    (follow_other v customer seat first x (exchanges_of customer (exchanges_in turns)) w s s2 step holding may.1)
    step.later far kept.1 apart may.2

-- over a run of the office
pub held : (v : Names) (customer seat : List ℕ) (first : ℕ) (r : SeatRun) (turns : List Turn)
    → IsStationRun v customer seat first r turns
    → Holding v seat first (after_turns v first turns beginning) (view customer r.new)
held v customer seat first r turns is =
    follow v customer seat first turns beginning (view customer r.old) (view customer r.new)
    (record { settled = begins first; row = is.begins; are_sent = tt })
    (subst (λ xs. RunsAlone (exchanges_of customer xs) (view customer r.old) (view customer r.new)) (sym is.office)
    (run_alone customer r.first r.exchanges r.last r.old r.new r.is_sound r.are_seats r.is_run))
    is.far (subst (AllByRecursion IsUnkept) (sym is.office) (run_unkept r.exchanges r.old r.new r.is_run)) is.apart is.turn

pub concluded : (v : Names) (customer seat : List ℕ) (first : ℕ) (r : SeatRun) (turns : List Turn)
    → IsStationRun v customer seat first r turns → Concludes first (after_turns v first turns beginning)
concluded v customer seat first r turns is =
    let w = after_turns v first turns beginning in
    let holding = held v customer seat first r turns is in
    let settled = holding.settled in
    record {
      books = books_of first w w.station.file.place refl settled.holds.placed;
      once = settled.order;
      told = told_placed w.station.file.place w.books w.told settled.holds.told_done;
      goes_on = settled.holds.stop;
    }

pub row_held : (v : Names) (customer seat : List ℕ) (first : ℕ) (r : SeatRun) (turns : List Turn)
    → IsStationRun v customer seat first r turns
    → IsRowOf v first (seat_named seat (view customer r.new)) (after_turns v first turns beginning).books
row_held v customer seat first r turns is = (held v customer seat first r turns is).row
