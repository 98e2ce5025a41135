-- A run of the office and of one of its stations.
use Rattle.std.specs.Prelude.{◌≡◌, ◌⊎◌, ℕ, ◌+◌, ◌<◌, ◌==◌, false, if◌then◌else◌, List, [], ◌∷◌, Option, None, Some}
use Rattle.office_tables.specs.declared.rows.SeatState.{SeatState}
use Rattle.office_commands.specs.Prelude.{largest_whole}
use Rattle.office_laws.specs.Prelude.{Exchange, SeatRun, last_number_of_seat, seat_named, view, writes}
use Rattle.seat_core.specs.declared.event.Event.{Event}
use Rattle.seat_core.specs.declared.request.Sent.{Sent}
use Rattle.seat_laws.specs.Prelude.{Answer, Entry, HasRoom, IsAmong, IsNoLook, MayBefall, Move, Reply, World, accepts, after_move}
use Rattle.seat_laws.specs.Prelude.{beginning, entry_of, next_number, refuses}
use Rattle.seat_laws.specs.Runs.{befalls, says, serves, stops}
use Rattle.seat_runs.specs.Names.{AreApart, IsCopy, IsQuestion, Names}

-- One thing that happens: something befalls the station, or stops it when it has done so many acts
-- of it; the office gets a copy of what was sent, or the question for the number; one of these is
-- turned away before the office, by the server's port or a proxy, as by 1 to 10 or by 50; or the
-- office does anything else.
pub data Turn : Type 0 where
  meets : Event → Turn
  halts : Event → ℕ → Turn
  copies : Sent → Exchange → Turn
  questions : Exchange → Turn
  turned_away : Option Sent → ℕ → Turn
  others : Exchange → Turn

-- what the office did
abbrev pub exchanges_in : List Turn → List Exchange
exchanges_in [] = []
exchanges_in (copies sent x ∷ turns) = x ∷ exchanges_in turns
exchanges_in (questions x ∷ turns) = x ∷ exchanges_in turns
exchanges_in (others x ∷ turns) = x ∷ exchanges_in turns
exchanges_in (turn ∷ turns) = exchanges_in turns

-- a reply of 200 to the next number makes the request the newest of those that were accepted
abbrev pub with_accepted : ℕ → Sent → Answer → List Entry → List Entry
with_accepted first sent (accepts reply) books =
    if sent.number == next_number first books then entry_of sent reply ∷ books else books
with_accepted first sent (refuses code expected) books = books

-- what the number's question is answered
abbrev pub number_said : Answer → Move
number_said (accepts reply) = says 0 0
number_said (refuses code expected) = says code expected

-- a copy, or the question, is refused, and nothing is done
abbrev pub refused_move : Option Sent → ℕ → List Entry → Move
refused_move (Some sent) code books = serves sent (refuses code 0) books
refused_move None code books = says code 0

abbrev pub after_turn : Names → ℕ → Turn → World → World
after_turn v first (meets event) w = after_move (befalls event) w
after_turn v first (halts event count) w = after_move (stops event count) w
after_turn v first (copies sent x) w =
    after_move (serves sent (v.read x.1) (with_accepted first sent (v.read x.1) w.books)) w
after_turn v first (questions x) w = after_move (number_said (v.read x.1)) w
after_turn v first (turned_away what code) w = after_move (refused_move what code w.books) w
after_turn v first (others x) w = w

abbrev pub after_turns : Names → ℕ → List Turn → World → World
after_turns v first [] w = w
after_turns v first (turn ∷ turns) w = after_turns v first turns (after_turn v first turn w)

-- the seat of the customer made it
abbrev pub IsOf : List ℕ → List ℕ → Exchange → Type 0
IsOf customer seat x = (x.0.section.name ≡ customer) × (x.0.seat ≡ seat)

-- it was sent, if it isn't the question
abbrev pub WasSent : Option Sent → World → Type 0
WasSent (Some sent) w = IsAmong sent w.sent
WasSent None w = Unit {0}

-- each request of the seat that writes is a copy of what the station sent, any number of times and
-- as late as one likes, or its question; what the station hears is an answer to what it sent last;
-- and no person has it go on
abbrev pub MayTurn : Names → List ℕ → List ℕ → World → Turn → Type 0
MayTurn v customer seat w (meets event) = MayBefall w event × IsNoLook event
MayTurn v customer seat w (halts event count) = MayBefall w event × IsNoLook event
MayTurn v customer seat w (copies sent x) =
    IsAmong sent w.sent × IsOf customer seat x × IsCopy v sent x.0.wanted
MayTurn v customer seat w (questions x) = IsOf customer seat x × IsQuestion v x.0.wanted
MayTurn v customer seat w (turned_away what code) =
    WasSent what w × ((code < 11) ⊎ (code ≡ 50))
MayTurn v customer seat w (others x) =
    (IsOf customer seat x → ⊥) ⊎ (writes x.0.wanted ≡ false)

-- they may be, one after another, and the station forgets none of those that it keeps aside
abbrev pub MayTurns : Names → List ℕ → List ℕ → ℕ → World → List Turn → Type 0
MayTurns v customer seat first w [] = Unit {0}
MayTurns v customer seat first w (turn ∷ turns) =
    HasRoom w.station.file.place w.station.file.aside × MayTurn v customer seat w turn
    × MayTurns v customer seat first (after_turn v first turn w) turns

-- A run of the office, from sound tables, of a site that may grow, with the run of a station of one
-- of its seats. Nothing of the seat is under way at first, and the seat never comes to the greatest
-- number.
pub record IsStationRun (v : Names) (customer seat : List ℕ) (first : ℕ) (r : SeatRun)
    (turns : List Turn) : Type 0 where
  pub office : exchanges_in turns ≡ r.exchanges
  pub begins : first ≡ last_number_of_seat (seat_named seat (view customer r.old)) + 1
  pub far : last_number_of_seat (seat_named seat (view customer r.new)) + 1 < largest_whole
  pub apart : AreApart v (after_turns v first turns beginning).sent
  pub turn : MayTurns v customer seat first beginning turns

-- such a run, with its station, its seat and what happened
pub record StationRun : Type 0 where
  pub names : Names
  pub customer : List ℕ
  pub seat : List ℕ
  pub first : ℕ
  pub office : SeatRun
  pub turns : List Turn
  pub is_run : IsStationRun names customer seat first office turns

-- the station and its books behind the run
abbrev pub world_after : StationRun → World
world_after s = after_turns s.names s.first s.turns beginning

-- the answers to copies of what was sent, by the office or before it
abbrev pub answered_in : Names → List Turn → List Reply
answered_in v [] = []
answered_in v (copies sent x ∷ turns) =
    record { to = Some sent; answer = v.read x.1 } ∷ answered_in v turns
answered_in v (turned_away (Some sent) code ∷ turns) =
    record { to = Some sent; answer = refuses code 0 } ∷ answered_in v turns
answered_in v (turn ∷ turns) = answered_in v turns

-- the seat's row in the customer's tables behind it
abbrev pub row_after : StationRun → Option SeatState
row_after s = seat_named s.seat (view s.customer s.office.new)

-- the seat's row is of the newest accepted request, with its number, its digest and its reply
abbrev pub IsRowOf : Names → ℕ → Option SeatState → List Entry → Type 0
IsRowOf v first row [] = first ≡ last_number_of_seat row + 1
IsRowOf v first row (newest ∷ older) = (r : SeatState) × (row ≡ Some r) × (r.last ≡ newest.number)
    × (r.digest ≡ (v.request_of newest.request newest.number).digest)
    × (newest.reply ≡ v.name_of r.reply)
