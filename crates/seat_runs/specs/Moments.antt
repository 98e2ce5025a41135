-- A request that was done, at its moment of a run of the office.
use Rattle.std.specs.Prelude.{◌≡◌, ℕ, true, List, ◌∷◌, ◌++◌}
use Rattle.office_tables.specs.Prelude.{Tables}
use Rattle.office_laws.specs.Prelude.{Exchange, IsRun, Passes, asks, is_accepted, is_no_repeat}
use Rattle.seat_core.specs.declared.request.Answered.{Answered}
use Rattle.seat_laws.specs.Served.{accepts}
use Rattle.seat_runs.specs.Names.{Names}
use Rattle.seat_runs.specs.Turns.{IsOf, StationRun}

-- One exchange of a run, with the tables before it and behind it.
pub record Moment (xs : List Exchange) (t t2 : Tables) : Type 0 where
  pub before : List Exchange
  pub exchange : Exchange
  pub behind : List Exchange
  pub old : Tables
  pub new : Tables
  pub are : xs ≡ before ++ exchange ∷ behind
  pub reached : IsRun before t old
  pub passes : Passes old exchange.0 exchange.1 new
  pub goes_on : IsRun behind new t2

-- the command is done then: it was accepted, and is no repeat
abbrev pub IsDoneThen : {xs : List Exchange} {t t2 : Tables} → Moment xs t t2 → Type 0
IsDoneThen m = (is_accepted m.exchange ≡ true) × (is_no_repeat m.old m.exchange ≡ true)

-- the seat's request of this name is done then, with this reply
pub record IsDoneAt (v : Names) (customer seat : List ℕ) (request reply : ℕ) {xs : List Exchange}
    {t t2 : Tables} (m : Moment xs t t2) : Type 0 where
  pub number : ℕ
  pub asked : m.exchange.0.wanted ≡ asks (v.request_of request number)
  pub of : IsOf customer seat m.exchange
  pub answered : v.read m.exchange.1 ≡ accepts reply
  pub done : IsDoneThen m

-- the moments of a station's run of the office
abbrev pub MomentOf : StationRun → Type 0
MomentOf s = Moment s.office.exchanges s.office.old s.office.new

-- what the station told as done is done then, with the reply that it told
abbrev pub IsMomentOf : (s : StationRun) → Answered → MomentOf s → Type 0
IsMomentOf s told m = IsDoneAt s.names s.customer s.seat told.request told.reply m
