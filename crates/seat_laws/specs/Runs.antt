-- A station, its network and its server: what may happen, and what it leaves.
use Rattle.std.specs.Prelude.{◌≡◌, ◌⊎◌, ℕ, ◌≤◌, ◌==◌, not, if◌then◌else◌, List, [], ◌∷◌, filter, length, take, Option, None, Some}
use Rattle.seat_core.specs.declared.act.Act.{Act}
use Rattle.seat_core.specs.declared.act.Act.TheVariants.{LogRequest, LogOutcome, LogNumber, Send, AskNumber, Tell}
use Rattle.seat_core.specs.declared.event.Event.{Event}
use Rattle.seat_core.specs.declared.event.Event.TheVariants.{Want, Accept, Refuse, Look}
use Rattle.seat_core.specs.declared.request.Answered.{Answered}
use Rattle.seat_core.specs.declared.request.Outcome.TheVariants.{Done}
use Rattle.seat_core.specs.declared.request.Sent.{Sent}
use Rattle.seat_core.specs.declared.station.Place.{Place}
use Rattle.seat_core.specs.declared.station.Place.TheVariants.{Unknown, UnderWay}
use Rattle.seat_core.specs.declared.station.Station.{Station}
use Rattle.seat_core.specs.declared.station.Waiting.{Waiting}
use Rattle.seat_core.specs.declared.station.Waiting.TheVariants.{Nothing, Once, Again, Kept}
use Rattle.seat_core.specs.Prelude.{Step, step_of, untried_request, writes}
use Rattle.seat_laws.specs.Served.{Answer, Answers, Entry, IsTaken, accepts, next_number, refuses}

-- it is one of these
abbrev pub IsAmong : {X : Type 0} → X → List X → Type 0
IsAmong x [] = ⊥
IsAmong x (other ∷ others) = (x ≡ other) ⊎ IsAmong x others

-- An answer of the server's, to a request, or to the question for the number (`None`).
pub record Reply : Type 0 where
  pub to : Option Sent
  pub answer : Answer

-- The station, its log, the requests that were wanted of it, what it told of them, what it sent,
-- the seat's accepted requests at the server, and the answers since it last sent something: the
-- newest first.
pub record World : Type 0 where
  pub station : Station
  pub log : List Act
  pub wanted : List ℕ
  pub told : List Answered
  pub sent : List Sent
  pub books : List Entry
  pub since : List Reply

-- a new station and a seat of which nothing is under way
abbrev pub beginning : World
beginning = record {
  station = record {
    file = record { place = Unknown; aside = []; last = None; stop = None };
    waiting = Nothing;
  };
  log = [];
  wanted = [];
  told = [];
  sent = [];
  books = [];
  since = [];
}

abbrev pub after_act : Act → World → World
after_act (LogRequest sent) w = record w { log = LogRequest sent ∷ w.log }
after_act (LogOutcome number outcome) w = record w { log = LogOutcome number outcome ∷ w.log }
after_act (LogNumber number) w = record w { log = LogNumber number ∷ w.log }
after_act (Send sent) w = record w { sent = sent ∷ w.sent; since = [] }
after_act AskNumber w = record w { since = [] }
after_act (Tell request (Done reply)) w =
    record w { told = record { request = request; reply = reply } ∷ w.told }
after_act act w = w

abbrev pub after_acts : List Act → World → World
after_acts [] w = w
after_acts (act ∷ acts) w = after_acts acts (after_act act w)

-- the station does all that the machine says
abbrev pub after_step : Step → World → World
after_step step w = record (after_acts step.acts w) { station = step.left }

-- It is stopped when it has done so much of that. It has what it wrote, and waits for nothing.
abbrev pub after_stop : Step → ℕ → World → World
after_stop step count w = record (after_acts (take count step.acts) w) {
  station = record {
    file = if writes (take count step.acts) then step.left.file else w.station.file;
    waiting = Nothing;
  };
}

-- what is wanted of the station, with this event
abbrev pub wanted_with : Event → List ℕ → List ℕ
wanted_with (Want request) wanted = request ∷ wanted
wanted_with event wanted = wanted

abbrev pub noted : Event → World → World
noted event w = record w { wanted = wanted_with event w.wanted }

-- One thing that happens: an event befalls the station; it is stopped when it has done so many acts
-- of one; a copy of a request comes to the server, is answered, and the books are so then; the
-- server says which number it expects, or refuses to; somebody else has a request done with the
-- seat's token.
pub data Move : Type 0 where
  befalls : Event → Move
  stops : Event → ℕ → Move
  serves : Sent → Answer → List Entry → Move
  says : ℕ → ℕ → Move
  takes : Entry → Move

abbrev pub after_move : Move → World → World
after_move (befalls event) w = after_step (step_of w.station event) (noted event w)
after_move (stops event count) w = after_stop (step_of w.station event) count (noted event w)
after_move (serves sent answer books) w =
    record w { books = books; since = record { to = Some sent; answer = answer } ∷ w.since }
after_move (says code expected) w =
    record w { since = record { to = None; answer = refuses code expected } ∷ w.since }
after_move (takes entry) w = record w { books = entry ∷ w.books }

-- what the station sent last: a request, or the question for the number
abbrev pub probed : ℕ → Option ℕ → Option Sent
probed number None = None
probed number (Some request) = Some (record { number = number; request = request })

abbrev pub last_sent : Waiting → Place → List ℕ → Option Sent
last_sent Once (UnderWay sent) aside = Some sent
last_sent Again (UnderWay sent) aside = Some sent
last_sent (Kept untried again) (UnderWay sent) aside =
    probed sent.number (untried_request aside untried)
last_sent waiting place aside = None

abbrev pub last_question : Station → Option Sent
last_question s = last_sent s.waiting s.file.place s.file.aside

-- what is heard as an answer is one, to what was sent last, and since then
abbrev pub MayBefall : World → Event → Type 0
MayBefall w (Accept reply) =
    IsAmong (record { to = last_question w.station; answer = accepts reply }) w.since
MayBefall w (Refuse code expected) =
    IsAmong (record { to = last_question w.station; answer = refuses code expected }) w.since
MayBefall w event = Unit {0}

-- The server gets what was sent, any number of times and as late as one likes.
abbrev pub MayHappen : ℕ → World → Move → Type 0
MayHappen first w (befalls event) = MayBefall w event
MayHappen first w (stops event count) = MayBefall w event
MayHappen first w (serves sent answer books) =
    IsAmong sent w.sent × Answers first w.books sent answer books
MayHappen first w (says code expected) = code ≡ 11 → expected ≡ next_number first w.books
MayHappen first w (takes entry) = IsTaken first w.books entry

abbrev pub after_moves : List Move → World → World
after_moves [] w = w
after_moves (move ∷ moves) w = after_moves moves (after_move move w)

-- each may happen, one after another
abbrev pub IsRun : ℕ → World → List Move → Type 0
IsRun first w [] = Unit {0}
IsRun first w (move ∷ moves) = MayHappen first w move × IsRun first (after_move move w) moves

-- this isn't that a person has the station go on
abbrev pub IsNoLook : Event → Type 0
IsNoLook Look = ⊥
IsNoLook event = Unit {0}

-- no person ever has the station go on
abbrev pub IsUnaided : List Move → Type 0
IsUnaided [] = Unit {0}
IsUnaided (befalls event ∷ moves) = IsNoLook event × IsUnaided moves
IsUnaided (stops event count ∷ moves) = IsNoLook event × IsUnaided moves
IsUnaided (move ∷ moves) = IsUnaided moves

-- nobody else has the seat's token
abbrev pub IsAlone : List Move → Type 0
IsAlone [] = Unit {0}
IsAlone (takes entry ∷ moves) = ⊥
IsAlone (move ∷ moves) = IsAlone moves

-- where the request under way is kept aside too, none is forgotten
abbrev pub HasRoom : Place → List ℕ → Type 0
HasRoom (UnderWay sent) aside = length (filter (λ kept. not (kept == sent.request)) aside) ≤ 15
HasRoom place aside = Unit {0}

-- none is forgotten ever
abbrev pub KeepsAll : World → List Move → Type 0
KeepsAll w [] = Unit {0}
KeepsAll w (move ∷ moves) =
    HasRoom w.station.file.place w.station.file.aside × KeepsAll (after_move move w) moves
