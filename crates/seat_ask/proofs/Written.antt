-- The text of a station's file has no float, and nests no deeper than a text may.
use Rattle.std.proofs.Common.{◌≡◌, ◌≤◌, ℕ, List, [], ◌∷◌, map, false, refl, arith, Option, None, Some}
use Rattle.serde_json.specs.Data.{depth, items_depth}
use Rattle.serde_json.specs.View.{items_of}
use Rattle.serde_json.specs.Written.{has_float, items_have_float}
use Rattle.seat_core.specs.declared.request.Answered.{Answered}
use Rattle.seat_core.specs.declared.request.Stop.{Stop}
use Rattle.seat_core.specs.declared.station.Place.{Place}
use Rattle.seat_core.specs.declared.station.Place.TheVariants.{Unknown, Free, UnderWay}
use Rattle.seat_ask.specs.declared.state.Asked.{Asked}
use Rattle.seat_ask.specs.Prelude.{StateValue, asked_data, last_data, number_data, place_data, state_data, stop_data}

numbers_float : (ns : List ℕ) → items_have_float (items_of (map number_data ns)) ≡ false
numbers_float [] = refl
numbers_float (n ∷ ns) = numbers_float ns

requests_float : (rs : List Asked) → items_have_float (items_of (map asked_data rs)) ≡ false
requests_float [] = refl
requests_float (r ∷ rs) = requests_float rs

place_float : (p : Place) → has_float (place_data p) ≡ false
place_float Unknown = refl
place_float (Free n) = refl
place_float (UnderWay sent) = refl

last_float : (l : Option Answered) → has_float (last_data l) ≡ false
last_float None = refl
last_float (Some l) = refl

stop_float : (s : Option Stop) → has_float (stop_data s) ≡ false
stop_float None = refl
stop_float (Some s) = refl

-- it has no float
pub has_float-state_data : (s : StateValue) → has_float (state_data s) ≡ false
has_float-state_data s = rw (
  numbers_float s.file.aside,
  last_float s.file.last,
  place_float s.file.place,
  requests_float s.requests,
  stop_float s.file.stop,
) refl

numbers_depth : (ns : List ℕ) → items_depth (items_of (map number_data ns)) ≤ 0
numbers_depth [] = omega arith
numbers_depth (n ∷ ns) = omega (arith, numbers_depth ns)

requests_depth : (rs : List Asked) → items_depth (items_of (map asked_data rs)) ≤ 1
requests_depth [] = omega arith
requests_depth (r ∷ rs) = omega (arith, requests_depth rs)

place_depth : (p : Place) → depth (place_data p) ≤ 1
place_depth Unknown = omega arith
place_depth (Free n) = omega arith
place_depth (UnderWay sent) = omega arith

last_depth : (l : Option Answered) → depth (last_data l) ≤ 1
last_depth None = omega arith
last_depth (Some l) = omega arith

stop_depth : (s : Option Stop) → depth (stop_data s) ≤ 1
stop_depth None = omega arith
stop_depth (Some s) = omega arith

-- it nests three levels at the most
pub depth-state_data : (s : StateValue) → depth (state_data s) ≤ 127
depth-state_data s = omega (
  arith,
  numbers_depth s.file.aside,
  last_depth s.file.last,
  place_depth s.file.place,
  requests_depth s.requests,
  stop_depth s.file.stop,
)
