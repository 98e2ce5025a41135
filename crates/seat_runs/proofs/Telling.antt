-- What a station told as done was done at a moment of the office's run.
use Rattle.std.proofs.Common.{◌≡◌, ◌+◌, ◌<◌, ◌≤◌, ◌⊎◌, ◌∷◌, ◌&&◌, ◌==◌}
use Rattle.text_core.proofs.Kit.{Option, None, Some}
use Rattle.text_core.proofs.Kit.{◌∙◌, ℕ, inl, inr, Bool, true, false, List, [], refl, sym, ap, subst, arith, eqb-true, lt-ltb, nat_lt}
use Rattle.std.specs.Prelude.{if◌then◌else◌}
use Rattle.http_replies.specs.Prelude.{Answer as Response}
use Rattle.site_core.specs.Prelude.{Ownership}
use Rattle.office_tables.specs.Prelude.{Tables}
use Rattle.office_commands.specs.declared.command.Command.{Command}
use Rattle.office_commands.specs.declared.command.Command.TheVariants.{Change, Show}
use Rattle.office_commands.specs.declared.command.Request.{Request}
use Rattle.office_commands.specs.declared.refusal.Refusal.{Refusal}
use Rattle.office_commands.specs.Prelude.{refusal, refusal_number, unkept}
use Rattle.office_rules.specs.Prelude.{respond_to}
use Rattle.office_laws.specs.Prelude.{AreSeats, Exchange, IsRun, IsSound, Passes, SoloState, Wanted, alone_on, asks}
use Rattle.office_laws.specs.Prelude.{calls_of, exchanges_of, is_accepted, is_change, is_own, number_of_wanted}
use Rattle.office_laws.specs.Prelude.{seat_named, solo_sight, view, writes}
use Rattle.office_laws.proofs.Acting.{last_at}
use Rattle.office_laws.proofs.Passing.{Serves}
use Rattle.office_laws.proofs.RunLaws.{run_alone, serves_grown}
use Rattle.office_laws.proofs.RunsAlone.{Own, RunsAlone}
use Rattle.seat_core.specs.declared.request.Answered.{Answered}
use Rattle.seat_core.specs.declared.request.Sent.{Sent}
use Rattle.seat_core.specs.Prelude.{step_of}
use Rattle.seat_laws.specs.Prelude.{Answer, Entry, IsAmong, AreToldOf, IsToldOf, World, accepts, beginning, entry_of, next_number}
use Rattle.seat_laws.specs.Prelude.{noted, refuses}
use Rattle.seat_laws.proofs.Running.{begins, same_books}
use Rattle.std.specs.Prelude.{take}
use Rattle.seat_runs.specs.Prelude.{AreApart, IsCopy, IsDoneAt, IsOf, IsPlanRecorded, IsRecorded, IsRowOf, IsMomentOf, MayTurns, Moment, MomentOf}
use Rattle.seat_runs.specs.Prelude.{Names, StationRun, Turn, after_turn, after_turns, exchanges_in, expected_in}
use Rattle.seat_runs.specs.Prelude.{asks_for, is_plan, with_accepted, world_after}
use Rattle.seat_runs.specs.Turns.{copies, halts, meets, others, questions, turned_away}
use Rattle.seat_runs.proofs.Answering.{few_expected, low_not, row_next}
use Rattle.seat_runs.proofs.Coming.{Comes, Responds, comes_to, row_number}
use Rattle.seat_runs.proofs.Following.{apart_now, turn_away, Holding, Passed, concluded, follow_copy, follow_other, follow_question}
use Rattle.seat_runs.proofs.Following.{halt, meet, not_own, passes_unkept, run_last, said_books}
use Rattle.seat_runs.proofs.Making.{accepted_succeeds, is_success}
use Rattle.seat_runs.proofs.Staying.{first_moment, later_moment, expected_from, recorded_at, stays_from}

-- an entry of the books was done at a moment of the run
record IsDoneIn (v : Names) (customer seat : List ℕ) (entry : Entry) (xs : List Exchange) (t t2 : Tables) : Type 0 where
  moment : Moment xs t t2
  done : IsDoneAt v customer seat entry.request entry.reply moment

-- a copy added it
record IsAdded (first : ℕ) (sent : Sent) (answer : Answer) (books : List Entry) (entry : Entry) : Type 0 where
  reply : ℕ
  answered : answer ≡ accepts reply
  next : sent.number ≡ next_number first books
  is : entry ≡ entry_of sent reply

added : (first : ℕ) (sent : Sent) (answer : Answer) (books : List Entry) (entry : Entry)
    → IsAmong entry (with_accepted first sent answer books)
    → IsAmong entry books ⊎ IsAdded first sent answer books entry
added first sent (refuses code expected) books entry among = inl among
added first sent (accepts reply) books entry among = by (sent.number == next_number first books) refl among
  where
    by : (b : Bool) → (sent.number == next_number first books) ≡ b
        → IsAmong entry (if b then entry_of sent reply ∷ books else books)
        → IsAmong entry books ⊎ IsAdded first sent (accepts reply) books entry
    by true is (inl same) =
        inr (record { reply = reply; answered = refl; next = eqb-true _ _ is; is = same })
    by true is (inr among) = inl among
    by false is among = inl among

-- an answer that is read as accepted is no refusal
not_refused : (v : Names) (x : Response) (reason : Refusal) (reply : ℕ) → v.read x ≡ accepts reply
    → expected_in reason ≤ 9007199254740991 → x ≡ refusal reason → ⊥
not_refused v x reason reply accepted few is =
    let r : v.read x ≡ refuses (refusal_number reason) (expected_in reason) =
    ap v.read is ∙ v.reads_refusal reason few in
    cc (accepted, r)

module _ (v : Names) (customer seat : List ℕ) (first : ℕ) (sent : Sent) (x : Exchange) (s mid : SoloState)
    (books : List Entry) (reply : ℕ) (of : IsOf customer seat x) (row : IsRowOf v first (seat_named seat s) books)
    (accepted : v.read x.1 ≡ accepts reply) (next : sent.number ≡ next_number first books)
    (far : last_at seat s + 1 < 9007199254740991) where
  abbrev its : Request
  its = v.request_of sent.request sent.number

  -- it was done now
  pub record IsDoneNow : Type 0 where
    pub asked : x.0.wanted ≡ asks its
    pub was : is_accepted x ≡ true
    pub new : nat_lt (row_number x.0.seat s) (number_of_wanted x.0.wanted) ≡ true

  number_next : its.number ≡ row_number x.0.seat s + 1
  number_next =
      let n = v.numbered sent.request sent.number in
      let after = row_next v first (seat_named seat s) books row in
      let same = ap (λ q. row_number q s) of.1 in omega arith

  of_comes : (change : _) → its.command ≡ Change change → x.0.wanted ≡ asks its
      → Comes x.0.section x.0.seat s mid x.1 its change → IsDoneNow
  of_comes change is e (inl made) = record {
    asked = e;
    was = subst (λ (w : Wanted). (writes w && is_success x.1) ≡ true) (sym e)
        (rw (is, accepted_succeeds x.1 made.made.body made.shown) refl);
    new = subst (λ (w : Wanted). nat_lt (row_number x.0.seat s) (number_of_wanted w) ≡ true) (sym e)
        (let n = number_next in lt-ltb (row_number x.0.seat s) its.number (omega arith));
  }
  of_comes change is e (inr (inl again)) =
      let n = number_next in
      let same = again.number in absurd (omega arith)
  of_comes change is e (inr (inr denied)) =
      absurd (not_refused v x.1 denied.reason reply accepted (few denied.reason denied.expects) denied.shown)
    where
      few : (reason : Refusal) → (expected_in reason ≤ row_number x.0.seat s + 1) ⊎ (refusal_number reason ≡ 11 → ⊥)
          → expected_in reason ≤ 9007199254740991
      few reason (inl less) = let same = ap (λ q. row_number q s) of.1 in omega arith
      few reason (inr other) = few_expected reason other

  of_command : (command : Command) → its.command ≡ command → is_change command ≡ true → x.0.wanted ≡ asks its
      → Responds x.0.section x.0.seat s mid x.1
      (respond_to x.0.section x.0.seat (solo_sight x.0.section x.0.seat s) its command) → IsDoneNow
  of_command (Show showing) is changes e responds = cc
  of_command (Change change) is changes e responds =
      of_comes change is e (comes_to x.0.section x.0.seat s mid x.1 its change responds)

  -- a copy that was answered so, with the next number
  pub copy_done : IsCopy v sent x.0.wanted → Own s x.0 x.1 mid → IsDoneNow
  copy_done (inl e) own =
      of_command its.command refl (v.changes sent.request sent.number) e
      (subst (λ (q : Wanted). ◌≡◌ {A = Response × SoloState} (x.1, mid) (alone_on x.0 s q)) e own)
  copy_done (inr came) own =
      let it : ◌≡◌ {A = Response × SoloState} (x.1, mid) (refusal came.0, s) =
      subst (λ (q : Wanted). ◌≡◌ {A = Response × SoloState} (x.1, mid) (alone_on x.0 s q)) came.1 own in
      absurd (not_refused v x.1 came.0 reply accepted
      (few_expected came.0 (low_not _ 11 came.2 (omega arith) (omega arith)))
      (ap (λ (p : Response × SoloState). p.0) it))

-- one exchange of a run over the tables, to the customer's own machine
abbrev passing : (customer : List ℕ) (o : Ownership) (x : Exchange) (xs : List Exchange) (last : Ownership) (t mid t2 : Tables)
    → Serves o x t mid → RunsAlone (exchanges_of customer xs) (view customer mid) (view customer t2)
    → Passed customer x (exchanges_of customer xs) (view customer t) (view customer t2)
passing customer o x xs last t mid t2 serves run = record {
  mid = view customer mid;
  step = by (is_own customer x) refl;
  later = run;
}
  where
    by : (b : Bool) → is_own customer x ≡ b
        → ((is_own customer x ≡ true) × Own (view customer t) x.0 x.1 (view customer mid))
        ⊎ ((is_own customer x ≡ false) × (view customer mid ≡ view customer t))
    by true is = inl (is, serves.own customer is)
    by false is = inr (is, serves.other customer is)

later_done : (v : Names) (customer seat : List ℕ) (entry : Entry) (x : Exchange) (xs : List Exchange) (t mid t2 : Tables)
    → Passes t x.0 x.1 mid → IsDoneIn v customer seat entry xs mid t2 → IsDoneIn v customer seat entry (x ∷ xs) t t2
later_done v customer seat entry x xs t mid t2 passes is = record {
  moment = later_moment x xs t mid t2 passes is.moment;
  done = record {
    number = is.done.number;
    asked = is.done.asked;
    of = is.done.of;
    answered = is.done.answered;
    done = is.done.done;
  };
}

-- what a copy added was done by it
added_done : (v : Names) (customer seat : List ℕ) (first : ℕ) (sent : Sent) (x : Exchange) (xs : List Exchange)
    (t mid t2 : Tables) (books : List Entry) (entry : Entry) → Passes t x.0 x.1 mid → IsRun xs mid t2
    → IsOf customer seat x → IsCopy v sent x.0.wanted → IsRowOf v first (seat_named seat (view customer t)) books
    → ((is_own customer x ≡ true) × Own (view customer t) x.0 x.1 (view customer mid))
    ⊎ ((is_own customer x ≡ false) × (view customer mid ≡ view customer t))
    → last_at seat (view customer t) + 1 < 9007199254740991
    → IsAdded first sent (v.read x.1) books entry → IsDoneIn v customer seat entry (x ∷ xs) t t2
added_done v customer seat first sent x xs t mid t2 books entry passes run of copy row (inr other) far is =
    absurd (not_refused v x.1 unkept is.reply is.answered (omega arith)
    (passes_unkept x t mid passes (not_own customer x of.0 other.0)))
added_done v customer seat first sent x xs t mid t2 books entry passes run of copy row (inl own) far is =
    subst (λ e. IsDoneIn v customer seat e (x ∷ xs) t t2) (sym is.is) (record {
      moment = first_moment x xs t mid t2 passes run;
      done = record {
        number = sent.number;
        asked = now.asked;
        of = of;
        answered = is.answered;
        done = (
          now.was,
          subst (λ name. nat_lt (row_number x.0.seat (view name t)) (number_of_wanted x.0.wanted) ≡ true)
              (sym of.0) now.new,
        );
      };
    })
  where
    now : IsDoneNow v customer seat first sent x (view customer t) (view customer mid) books is.reply of row
        is.answered is.next far
    now = copy_done v customer seat first sent x (view customer t) (view customer mid) books is.reply of row
        is.answered is.next far copy own.1

-- what the books have more behind some turns was done at a moment of theirs
entry_done : (v : Names) (customer seat : List ℕ) (first : ℕ) (entry : Entry) (turns : List Turn) (w : World)
    (o last : Ownership) (t t2 : Tables) → IsSound o t → AreSeats o (calls_of (exchanges_in turns)) last
    → IsRun (exchanges_in turns) t t2 → Holding v seat first w (view customer t)
    → last_at seat (view customer t2) + 1 < 9007199254740991 → AreApart v (after_turns v first turns w).sent
    → MayTurns v customer seat first w turns
    → IsAmong entry (after_turns v first turns w).books
    → IsAmong entry w.books ⊎ IsDoneIn v customer seat entry (exchanges_in turns) t t2
entry_done v customer seat first entry [] w o last t t2 sound seats run holding far apart may among = inl among
entry_done v customer seat first entry (meets event ∷ turns) w o last t t2 sound seats run holding far apart may among =
    same (entry_done v customer seat first entry turns (after_turn v first (meets event) w) o last t t2 sound seats run
    (meet v seat first event w (view customer t) holding may.0 may.1) far apart may.2 among)
  where
    same : IsAmong entry (after_turn v first (meets event) w).books
        ⊎ IsDoneIn v customer seat entry (exchanges_in turns) t t2
        → IsAmong entry w.books ⊎ IsDoneIn v customer seat entry (exchanges_in turns) t t2
    same (inl is) = inl (subst (IsAmong entry) (same_books (step_of w.station event).acts (noted event w)) is)
    same (inr is) = inr is
entry_done v customer seat first entry (halts event count ∷ turns) w o last t t2 sound seats run holding far apart may among =
    same (entry_done v customer seat first entry turns (after_turn v first (halts event count) w) o last t t2 sound seats
    run (halt v seat first event count w (view customer t) holding may.0 may.1) far apart may.2 among)
  where
    same : IsAmong entry (after_turn v first (halts event count) w).books
        ⊎ IsDoneIn v customer seat entry (exchanges_in turns) t t2
        → IsAmong entry w.books ⊎ IsDoneIn v customer seat entry (exchanges_in turns) t t2
    same (inl is) =
        inl (subst (IsAmong entry) (same_books (take count (step_of w.station event).acts) (noted event w)) is)
    same (inr is) = inr is
entry_done v customer seat first entry (copies sent x ∷ turns) w o last t t2 sound seats run holding far apart may among =
    split (entry_done v customer seat first entry turns (after_turn v first (copies sent x) w) seats.0 last run.0 t2
    one.sound seats.4 run.2 holds far apart may.2 among)
  where
    one : Serves seats.0 x t run.0
    one = serves_grown o x (exchanges_in turns) last t run.0 sound seats run.1

    step : Passed customer x (exchanges_of customer (exchanges_in turns)) (view customer t) (view customer t2)
    step = passing customer seats.0 x (exchanges_in turns) last t run.0 t2 one
        (run_alone customer seats.0 (exchanges_in turns) last run.0 t2 one.sound seats.4 run.2)

    holds : Holding v seat first (after_turn v first (copies sent x) w) (view customer run.0)
    holds =
        let more = run_last seat (exchanges_of customer (exchanges_in turns)) (view customer run.0) (view customer t2) step.later in
        follow_copy v customer seat first sent x (exchanges_of customer (exchanges_in turns)) w (view customer t) (view customer t2) step
        holding may.0 (passes_unkept x t run.0 run.1) may.1 (omega arith)
        (apart_now v first (copies sent x ∷ turns) w apart)

    near : last_at seat (view customer t) + 1 < 9007199254740991
    near =
        let more = run_last seat (exchanges_of customer (x ∷ (exchanges_in turns))) (view customer t) (view customer t2)
        (run_alone customer o (x ∷ (exchanges_in turns)) last t t2 sound seats run) in omega arith

    new : IsAmong entry w.books ⊎ IsAdded first sent (v.read x.1) w.books entry
        → IsAmong entry w.books ⊎ IsDoneIn v customer seat entry (x ∷ (exchanges_in turns)) t t2
    new (inl is) = inl is
    new (inr is) = inr (added_done v customer seat first sent x (exchanges_in turns) t run.0 t2 w.books entry run.1 run.2 may.1.1
        may.1.2 holding.row step.step near is)

    split : IsAmong entry (with_accepted first sent (v.read x.1) w.books) ⊎ IsDoneIn v customer seat entry (exchanges_in turns) run.0 t2
        → IsAmong entry w.books ⊎ IsDoneIn v customer seat entry (x ∷ (exchanges_in turns)) t t2
    split (inl is) = new (added first sent (v.read x.1) w.books entry is)
    split (inr is) = inr (later_done v customer seat entry x (exchanges_in turns) t run.0 t2 run.1 is)
entry_done v customer seat first entry (questions x ∷ turns) w o last t t2 sound seats run holding far apart may among =
    split (entry_done v customer seat first entry turns (after_turn v first (questions x) w) seats.0 last run.0 t2
    one.sound seats.4 run.2 holds far apart may.2 among)
  where
    one : Serves seats.0 x t run.0
    one = serves_grown o x (exchanges_in turns) last t run.0 sound seats run.1

    all : RunsAlone (exchanges_of customer (x ∷ (exchanges_in turns))) (view customer t) (view customer t2)
    all = run_alone customer o (x ∷ (exchanges_in turns)) last t t2 sound seats run

    step : Passed customer x (exchanges_of customer (exchanges_in turns)) (view customer t) (view customer t2)
    step = passing customer seats.0 x (exchanges_in turns) last t run.0 t2 one
        (run_alone customer seats.0 (exchanges_in turns) last run.0 t2 one.sound seats.4 run.2)

    holds : Holding v seat first (after_turn v first (questions x) w) (view customer run.0)
    holds =
        let more = run_last seat (exchanges_of customer (x ∷ (exchanges_in turns))) (view customer t) (view customer t2) all in
        follow_question v customer seat first x (exchanges_of customer (exchanges_in turns)) w (view customer t) (view customer t2) step
        holding may.0 (passes_unkept x t run.0 run.1) may.1 (omega arith)

    split : IsAmong entry (after_turn v first (questions x) w).books ⊎ IsDoneIn v customer seat entry (exchanges_in turns) run.0 t2
        → IsAmong entry w.books ⊎ IsDoneIn v customer seat entry (x ∷ (exchanges_in turns)) t t2
    split (inl is) = inl (subst (IsAmong entry) (said_books (v.read x.1) w) is)
    split (inr is) = inr (later_done v customer seat entry x (exchanges_in turns) t run.0 t2 run.1 is)
entry_done v customer seat first entry (others x ∷ turns) w o last t t2 sound seats run holding far apart may among =
    split (entry_done v customer seat first entry turns w seats.0 last run.0 t2 one.sound seats.4 run.2
    (follow_other v customer seat first x (exchanges_of customer (exchanges_in turns)) w (view customer t) (view customer t2)
    (passing customer seats.0 x (exchanges_in turns) last t run.0 t2 one
    (run_alone customer seats.0 (exchanges_in turns) last run.0 t2 one.sound seats.4 run.2)) holding may.1) far apart may.2 among)
  where
    one : Serves seats.0 x t run.0
    one = serves_grown o x (exchanges_in turns) last t run.0 sound seats run.1

    split : IsAmong entry w.books ⊎ IsDoneIn v customer seat entry (exchanges_in turns) run.0 t2
        → IsAmong entry w.books ⊎ IsDoneIn v customer seat entry (x ∷ (exchanges_in turns)) t t2
    split (inl is) = inl is
    split (inr is) = inr (later_done v customer seat entry x (exchanges_in turns) t run.0 t2 run.1 is)
entry_done v customer seat first entry (turned_away what code ∷ turns) w o last t t2 sound seats run holding far apart may
    among =
    same what (entry_done v customer seat first entry turns (after_turn v first (turned_away what code) w) o last t t2 sound
    seats run (turn_away v customer seat first what code w (view customer t) holding may.0 may.1) far apart may.2 among)
  where
    same : (what : Option Sent) → IsAmong entry (after_turn v first (turned_away what code) w).books
        ⊎ IsDoneIn v customer seat entry (exchanges_in turns) t t2
        → IsAmong entry w.books ⊎ IsDoneIn v customer seat entry (exchanges_in turns) t t2
    same None (inl is) = inl is
    same (Some sent) (inl is) = inl is
    same what (inr is) = inr is

-- what was told is of an entry of the books
entry_told : (books : List Entry) (all : List Answered) (told : Answered) → AreToldOf books all → IsAmong told all
    → (entry : Entry) × IsAmong entry books × IsToldOf entry told
entry_told books [] told are among = absurd among
entry_told [] (first ∷ later_told) told are among = absurd are
entry_told (entry ∷ books) (first ∷ later_told) told (inl first_of) (inl is) =
    (entry, inl refl, subst (IsToldOf entry) (sym is) first_of.0)
entry_told (entry ∷ books) (first ∷ later_told) told (inl first_of) (inr among) =
    let later = entry_told books later_told told first_of.1 among in (later.0, inr later.1, later.2)
entry_told (entry ∷ books) (first ∷ later_told) told (inr are) among =
    let later = entry_told books (first ∷ later_told) told are among in (later.0, inr later.1, later.2)

done_told : (v : Names) (customer seat : List ℕ) (entry : Entry) (told : Answered) (xs : List Exchange) (t t2 : Tables)
    → entry.request ≡ told.request → entry.reply ≡ told.reply → IsDoneIn v customer seat entry xs t t2
    → (m : Moment xs t t2) × IsDoneAt v customer seat told.request told.reply m
done_told v customer seat entry told xs t t2 request reply is = (
  is.moment,
  subst (λ n. IsDoneAt v customer seat told.request n is.moment) reply
      (subst (λ n. IsDoneAt v customer seat n entry.reply is.moment) request is.done),
)

pub told_done : (s : StationRun) (told : Answered) → IsAmong told (world_after s).told
    → (m : MomentOf s) × IsMomentOf s told m
told_done s told among =
    let r = s.office in
    let w = world_after s in
    let entry = entry_told w.books w.told told
    (concluded s.names s.customer s.seat s.first r s.turns s.is_run).told among in
    done_told s.names s.customer s.seat entry.0 told r.exchanges r.old r.new entry.2.0 entry.2.1
    (subst (λ xs. IsDoneIn s.names s.customer s.seat entry.0 xs r.old r.new) s.is_run.office
    (none (entry_done s.names s.customer s.seat s.first entry.0 s.turns beginning r.first r.last r.old r.new r.is_sound
    (subst (λ xs. AreSeats r.first (calls_of xs) r.last) (sym s.is_run.office) r.are_seats)
    (subst (λ xs. IsRun xs r.old r.new) (sym s.is_run.office) r.is_run)
    (record { settled = begins s.first; row = s.is_run.begins; are_sent = tt }) s.is_run.far s.is_run.apart
    s.is_run.turn entry.1)))
  where
    none : {P : Type 0} → ⊥ ⊎ P → P
    none (inl is) = absurd is
    none (inr is) = is

-- a plan that was told as done is recorded, and stays so
pub plan_kept : (s : StationRun) (told : Answered) (chip : List ℕ) → IsAmong told (world_after s).told
    → ((number : ℕ) → is_plan chip (s.names.request_of told.request number).command ≡ true)
    → IsPlanRecorded s told chip
plan_kept s told chip among plans_it =
    let is = told_done s told among in
    let at = is.1 in
    let planned : asks_for (is_plan chip) is.0.exchange.0.wanted ≡ true =
    subst (λ w. asks_for (is_plan chip) w ≡ true) (sym at.asked) (plans_it at.number) in
    let recorded = subst (λ name. IsRecorded name chip is.0.exchange.1 is.0.new) at.of.0
    (recorded_at s.office is.0 chip planned at.done) in
    record {
      moment = is.0;
      told_of = at;
      recorded = recorded;
      stays = stays_from s.office is.0 s.customer chip recorded.device recorded.there;
      expected = expected_from s.office is.0 s.customer chip recorded.device recorded.by_map recorded.there
          recorded.named;
    }
