-- What a station may conclude.
use Rattle.std.specs.Prelude.{◌≡◌, ◌⊎◌, ℕ, suc, ◌≤◌, ◌==◌, ◌&&◌, Bool, if◌then◌else◌, List, [], ◌∷◌, Option, None, Some}
use Rattle.seat_core.specs.declared.act.Act.{Act}
use Rattle.seat_core.specs.declared.act.Act.TheVariants.{LogRequest, LogOutcome}
use Rattle.seat_core.specs.declared.request.Answered.{Answered}
use Rattle.seat_core.specs.declared.request.Outcome.TheVariants.{Done, NotDone}
use Rattle.seat_core.specs.declared.request.Sent.{Sent}
use Rattle.seat_core.specs.declared.station.Place.{Place}
use Rattle.seat_core.specs.declared.station.Place.TheVariants.{Unknown, Free, UnderWay}
use Rattle.seat_laws.specs.Served.{Entry, IsInOrder, entry_of, refuses}
use Rattle.seat_laws.specs.Runs.{IsAmong, Move, Reply, World, serves}

-- the newest line of a request
abbrev pub line_of_request : List Act → Option Sent
line_of_request [] = None
line_of_request (LogRequest sent ∷ log) = Some sent
line_of_request (act ∷ log) = line_of_request log

-- they have one number, one request and one reply
abbrev pub is_same : Entry → Entry → Bool
is_same a b = a.number == b.number && a.request == b.request && a.reply == b.reply

-- with this one, unless it is the newest already
abbrev pub with_entry : Entry → List Entry → List Entry
with_entry entry [] = entry ∷ []
with_entry entry (newest ∷ older) =
    if is_same newest entry then newest ∷ older else entry ∷ newest ∷ older

-- with a reply to the request of this number
abbrev pub with_reply : ℕ → Option Sent → ℕ → List Entry → List Entry
with_reply number None reply done = done
with_reply number (Some sent) reply done =
    if sent.number == number then with_entry (entry_of sent reply) done else done

-- What the log has as done, the newest first: each line of a reply, with the request of the newest
-- line of a request, if it has its number. A line that comes again, behind a stop, is no other
-- request.
abbrev pub done_in : List Act → List Entry
done_in [] = []
done_in (LogOutcome number (Done reply) ∷ log) =
    with_reply number (line_of_request log) reply (done_in log)
done_in (act ∷ log) = done_in log

-- the request is under way with this number, or kept aside where it is the next one's
abbrev pub IsPending : Place → List ℕ → ℕ → ℕ → Type 0
IsPending Unknown aside number request = ⊥
IsPending (Free next) aside number request = (number ≡ next) × IsAmong request aside
IsPending (UnderWay sent) aside number request =
    (number ≡ sent.number) × IsAmong request (sent.request ∷ aside)

-- the server has accepted one more than the log has: it is under way, or kept aside
pub record IsOneMore (w : World) : Type 0 where
  pub entry : Entry
  pub books : w.books ≡ entry ∷ done_in w.log
  pub pending :
      IsPending w.station.file.place w.station.file.aside entry.number entry.request

-- it is told that this request was accepted, and got this reply
abbrev pub IsToldOf : Entry → Answered → Type 0
IsToldOf entry told = (entry.request ≡ told.request) × (entry.reply ≡ told.reply)

-- each was told of an entry of its own, one after another, the newest first
abbrev pub AreToldOf : List Entry → List Answered → Type 0
AreToldOf books [] = Unit {0}
AreToldOf [] (told ∷ others) = ⊥
AreToldOf (entry ∷ books) (told ∷ others) =
    (IsToldOf entry told × AreToldOf books others) ⊎ AreToldOf books (told ∷ others)

-- The log is the books, but for at most one request, which is under way or aside. The books have
-- each once, one number after the other. What was told as done was done, with that reply. The
-- station hasn't stopped.
pub record Concludes (first : ℕ) (w : World) : Type 0 where
  pub books : (w.books ≡ done_in w.log) ⊎ IsOneMore w
  pub once : IsInOrder first w.books
  pub told : AreToldOf w.books w.told
  pub goes_on : w.station.file.stop ≡ None

-- What was sent has a line in the log. It is so at each moment: the line is there before.
pub record IsLogged (w : World) : Type 0 where
  pub line : (sent : Sent) → IsAmong sent w.sent → IsAmong (LogRequest sent) w.log

-- the answers to requests of the station, in a run
abbrev pub answers_in : List Move → List Reply
answers_in [] = []
answers_in (serves sent answer books ∷ moves) =
    record { to = Some sent; answer = answer } ∷ answers_in moves
answers_in (move ∷ moves) = answers_in moves

-- the request of this line was refused so, and has this number
abbrev pub WasRefused : List Reply → Option Sent → ℕ → ℕ → Type 0
WasRefused answers None number code = ⊥
WasRefused answers (Some sent) number code = (sent.number ≡ number) × (expected : ℕ)
    × IsAmong (record { to = Some sent; answer = refuses code expected }) answers

-- each refusal in the log is an answer to the request whose line is the newest before it
abbrev pub WereRefused : List Reply → List Act → Type 0
WereRefused answers [] = Unit {0}
WereRefused answers (LogOutcome number (NotDone code) ∷ log) =
    WasRefused answers (line_of_request log) number code × WereRefused answers log
WereRefused answers (act ∷ log) = WereRefused answers log

-- how many times it is there
abbrev pub times : ℕ → List ℕ → ℕ
times request [] = 0
times request (other ∷ others) =
    if other == request then suc (times request others) else times request others

-- the requests that were done as copies of the station's, the newest first
abbrev pub own_requests : List Entry → List ℕ
own_requests [] = []
own_requests (entry ∷ books) =
    if entry.own then entry.request ∷ own_requests books else own_requests books

-- Whoever else has the token: what the station sent of a request was done at most as often as the
-- request was wanted.
pub record IsDoneOnce (w : World) : Type 0 where
  pub once : (request : ℕ) → times request (own_requests w.books) ≤ times request w.wanted
