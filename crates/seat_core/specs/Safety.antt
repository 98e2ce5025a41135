-- What holds of each step, whatever the event: a stop between two acts loses nothing of what was sent.
use Rattle.std.specs.Prelude.{◌≡◌, ◌⊎◌, ℕ, Bool, true, false, not, List, [], ◌∷◌, MatchBool, Some, slice_get}
use Rattle.std.specs.List.{AllByRecursion}
use Rattle.seat_core.specs.declared.act.Act.{Act}
use Rattle.seat_core.specs.declared.act.Act.TheVariants.{Write, Send}
use Rattle.seat_core.specs.declared.request.Sent.{Sent}
use Rattle.seat_core.specs.declared.station.Place.TheVariants.{UnderWay}
use Rattle.seat_core.specs.declared.station.SeatFile.{SeatFile}
use Rattle.seat_core.specs.declared.station.Station.{Station}
use Rattle.seat_core.specs.Steps.{Step}

-- the file is written
abbrev pub writes : List Act → Bool
writes [] = false
writes (Write ∷ acts) = true
writes (act ∷ acts) = writes acts

-- nothing is written behind what is sent
abbrev pub writes_first : List Act → Bool
writes_first [] = true
writes_first (Send sent ∷ acts) = not (writes acts)
writes_first (act ∷ acts) = writes_first acts

-- what is sent
abbrev pub sendings_in : List Act → List Sent
sendings_in [] = []
sendings_in (Send sent ∷ acts) = sent ∷ sendings_in acts
sendings_in (act ∷ acts) = sendings_in acts

-- the file has this aside, with the number of what is under way
pub record IsAside (f : SeatFile) (sent : Sent) : Type 0 where
  pub other : Sent
  pub under_way : f.place ≡ UnderWay other
  pub number : sent.number ≡ other.number
  pub index : ℕ
  pub aside : slice_get f.aside index ≡ Some sent.request

-- by its file a station may send this: it is under way or aside
abbrev pub MaySend : SeatFile → Sent → Type 0
MaySend f sent = (f.place ≡ UnderWay sent) ⊎ IsAside f sent

-- A step that leaves another file writes it, and before it sends anything. It sends only what that
-- file has: so where the station is stopped, it sends the same bytes again.
pub record IsSafe (s : Station) (step : Step) : Type 0 where
  pub written : MatchBool (writes step.acts) (Unit {0}) (step.left.file ≡ s.file)
  pub first : writes_first step.acts ≡ true
  pub sent : AllByRecursion (MaySend step.left.file) (sendings_in step.acts)
