-- What was sent has its line in the log, and each refusal in the log is an answer, over a run of the office.
use Rattle.std.proofs.Common.{ℕ, List, [], ◌∷◌, None, Some, inl, inr}
use Rattle.office_laws.specs.Prelude.{SeatRun}
use Rattle.seat_laws.specs.Prelude.{Answer, IsAmong, IsLogged, Reply, WereRefused, World, accepts, after_move, beginning}
use Rattle.seat_laws.specs.Prelude.{refuses}
use Rattle.seat_laws.specs.Runs.{befalls, says, serves, stops}
use Rattle.seat_laws.proofs.Lines.{HasAllLines, lines_begin, lines_kept}
use Rattle.seat_laws.proofs.Refusals.{HasAllRefusals, refusals_begin, refusals_kept}
use Rattle.seat_runs.specs.Names.{Names}
use Rattle.seat_runs.specs.Turns.{IsStationRun, MayTurns, Turn, after_turn, after_turns, answered_in, number_said}
use Rattle.seat_runs.specs.Turns.{copies, halts, meets, others, questions, turned_away, with_accepted}

said_lines : (answer : Answer) (w : World) → HasAllLines w → HasAllLines (after_move (number_said answer) w)
said_lines (accepts reply) w is = lines_kept w (says 0 0) is tt
said_lines (refuses code expected) w is = lines_kept w (says code expected) is tt

turns_lines : (v : Names) (customer seat : List ℕ) (first : ℕ) (turns : List Turn) (w : World) → HasAllLines w
    → MayTurns v customer seat first w turns → HasAllLines (after_turns v first turns w)
turns_lines v customer seat first [] w is may = is
turns_lines v customer seat first (meets event ∷ turns) w is may =
    turns_lines v customer seat first turns (after_turn v first (meets event) w)
    (lines_kept w (befalls event) is (may.1.1, tt)) may.2
turns_lines v customer seat first (halts event count ∷ turns) w is may =
    turns_lines v customer seat first turns (after_turn v first (halts event count) w)
    (lines_kept w (stops event count) is (may.1.1, tt)) may.2
turns_lines v customer seat first (copies sent x ∷ turns) w is may =
    turns_lines v customer seat first turns (after_turn v first (copies sent x) w)
    (lines_kept w (serves sent (v.read x.1) (with_accepted first sent (v.read x.1) w.books)) is tt) may.2
turns_lines v customer seat first (questions x ∷ turns) w is may =
    turns_lines v customer seat first turns (after_turn v first (questions x) w) (said_lines (v.read x.1) w is) may.2
turns_lines v customer seat first (turned_away (Some sent) code ∷ turns) w is may =
    turns_lines v customer seat first turns (after_turn v first (turned_away (Some sent) code) w)
    (lines_kept w (serves sent (refuses code 0) w.books) is tt) may.2
turns_lines v customer seat first (turned_away None code ∷ turns) w is may =
    turns_lines v customer seat first turns (after_turn v first (turned_away None code) w)
    (lines_kept w (says code 0) is tt) may.2
turns_lines v customer seat first (others x ∷ turns) w is may =
    turns_lines v customer seat first turns w is may.2

pub logged : (v : Names) (customer seat : List ℕ) (first : ℕ) (r : SeatRun) (turns : List Turn)
    → IsStationRun v customer seat first r turns → IsLogged (after_turns v first turns beginning)
logged v customer seat first r turns run =
    let is = turns_lines v customer seat first turns beginning lines_begin run.turn in
    record { line = is.lines.sent }

said_refusals : (answers : List Reply) (answer : Answer) (w : World) → HasAllRefusals answers w
    → HasAllRefusals answers (after_move (number_said answer) w)
said_refusals answers (accepts reply) w is =
    refusals_kept answers w (says 0 0) (λ reply among. elim among [ ]) is tt
said_refusals answers (refuses code expected) w is =
    refusals_kept answers w (says code expected) (λ reply among. elim among [ ]) is tt

-- one answer, of all
only : (answers : List Reply) (reply : Reply) (more : List Reply)
    → ((r : Reply) → IsAmong r (reply ∷ more) → IsAmong r answers) → (r : Reply) → IsAmong r (reply ∷ [])
    → IsAmong r answers
only answers reply more gives r (inl e) = gives r (inl e)
only answers reply more gives r (inr among) = elim among [ ]

turns_refusals : (answers : List Reply) (v : Names) (customer seat : List ℕ) (first : ℕ) (turns : List Turn)
    (w : World) → ((reply : Reply) → IsAmong reply (answered_in v turns) → IsAmong reply answers)
    → HasAllRefusals answers w → MayTurns v customer seat first w turns
    → HasAllRefusals answers (after_turns v first turns w)
turns_refusals answers v customer seat first [] w gives is may = is
turns_refusals answers v customer seat first (meets event ∷ turns) w gives is may =
    turns_refusals answers v customer seat first turns (after_turn v first (meets event) w) gives
    (refusals_kept answers w (befalls event) (λ reply among. elim among [ ]) is may.1.0) may.2
turns_refusals answers v customer seat first (halts event count ∷ turns) w gives is may =
    turns_refusals answers v customer seat first turns (after_turn v first (halts event count) w) gives
    (refusals_kept answers w (stops event count) (λ reply among. elim among [ ]) is may.1.0) may.2
turns_refusals answers v customer seat first (copies sent x ∷ turns) w gives is may =
    turns_refusals answers v customer seat first turns (after_turn v first (copies sent x) w)
    (λ reply among. gives reply (inr among))
    (refusals_kept answers w (serves sent (v.read x.1) (with_accepted first sent (v.read x.1) w.books))
    (only answers (record { to = Some sent; answer = v.read x.1 }) (answered_in v turns) gives) is tt) may.2
turns_refusals answers v customer seat first (questions x ∷ turns) w gives is may =
    turns_refusals answers v customer seat first turns (after_turn v first (questions x) w) gives
    (said_refusals answers (v.read x.1) w is) may.2
turns_refusals answers v customer seat first (turned_away (Some sent) code ∷ turns) w gives is may =
    turns_refusals answers v customer seat first turns (after_turn v first (turned_away (Some sent) code) w)
    (λ reply among. gives reply (inr among))
    (refusals_kept answers w (serves sent (refuses code 0) w.books)
    (only answers (record { to = Some sent; answer = refuses code 0 }) (answered_in v turns) gives) is tt) may.2
turns_refusals answers v customer seat first (turned_away None code ∷ turns) w gives is may =
    turns_refusals answers v customer seat first turns (after_turn v first (turned_away None code) w) gives
    (refusals_kept answers w (says code 0) (λ reply among. elim among [ ]) is tt) may.2
turns_refusals answers v customer seat first (others x ∷ turns) w gives is may =
    turns_refusals answers v customer seat first turns w gives is may.2

pub were_refused : (v : Names) (customer seat : List ℕ) (first : ℕ) (r : SeatRun) (turns : List Turn)
    → IsStationRun v customer seat first r turns
    → WereRefused (answered_in v turns) (after_turns v first turns beginning).log
were_refused v customer seat first r turns run =
    let is = turns_refusals (answered_in v turns) v customer seat first turns beginning (λ reply among. among)
    (refusals_begin (answered_in v turns)) run.turn in
    is.holds.lines
