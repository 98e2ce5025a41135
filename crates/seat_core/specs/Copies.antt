-- What a refusal leaves of the request under way, of which a copy may still come.
use Rattle.std.specs.Prelude.{◌≡◌, ◌⊎◌, ℕ, Bool, true, not, nat_lt, List, [], ◌∷◌, ◌++◌, Option, None, Some}
use Rattle.std.specs.List.{list_all}
use Rattle.seat_core.specs.declared.act.Act.{Act}
use Rattle.seat_core.specs.declared.act.Act.TheVariants.{LogOutcome}
use Rattle.seat_core.specs.declared.request.Outcome.TheVariants.{NotDone}
use Rattle.seat_core.specs.declared.request.Sent.{Sent}
use Rattle.seat_core.specs.declared.station.Place.{Place}
use Rattle.seat_core.specs.declared.station.Place.TheVariants.{Unknown, Free, UnderWay}
use Rattle.seat_core.specs.declared.station.SeatFile.{SeatFile}
use Rattle.seat_core.specs.declared.station.Station.{Station}
use Rattle.seat_core.specs.declared.station.Waiting.{Waiting}
use Rattle.seat_core.specs.Steps.{Step}

-- a station with a request under way
abbrev pub with_request : SeatFile → Sent → Waiting → Station
with_request f sent waiting = record { file = record f { place = UnderWay sent }; waiting = waiting }

-- the number of the request under way, or of the next one
abbrev pub number_of : Place → Option ℕ
number_of Unknown = None
number_of (Free number) = Some number
number_of (UnderWay sent) = Some sent.number

-- The number of this request is still the station's, and the request is under way, or the newest of
-- those aside.
pub record IsKept (sent : Sent) (step : Step) : Type 0 where
  pub number : number_of step.left.file.place ≡ Some sent.number
  pub kept : (step.left.file.place ≡ UnderWay sent)
      ⊎ ((others : List ℕ) × (step.left.file.aside ≡ others ++ sent.request ∷ []))

-- it is no line of the log by which a refusal of 1 to 10 says that something wasn't done
abbrev pub is_sure : Act → Bool
is_sure (LogOutcome number (NotDone code)) = not (nat_lt code 11)
is_sure act = true

-- The same of a request that may have been sent before. The log has no refusal of 1 to 10 of it.
pub record IsSure (sent : Sent) (step : Step) : Type 0 where
  pub copies : IsKept sent step
  pub log : list_all is_sure step.acts ≡ true
