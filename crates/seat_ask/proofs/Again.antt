-- What is written of a station's file is read as the same.
use Rattle.std.proofs.Common.{◌≡◌, ◌<◌, ℕ, List, [], ◌∷◌, map, refl, Option, None, Some, IfSome, true}
use Rattle.std.proofs.lemmas.Bool.{lt-ltb}
use Rattle.std.specs.Prelude.{nat_lt}
use Rattle.serde_json.specs.View.{items_of}
use Rattle.members.specs.Prelude.{json_items}
use Rattle.text_core.specs.Prelude.{all_of}
use Rattle.seat_core.specs.declared.request.Answered.{Answered}
use Rattle.seat_core.specs.declared.request.Stop.{Stop}
use Rattle.seat_core.specs.declared.station.Place.{Place}
use Rattle.seat_core.specs.declared.station.Place.TheVariants.{Unknown, Free, UnderWay}
use Rattle.seat_ask.specs.declared.state.Asked.{Asked}
use Rattle.seat_ask.specs.Prelude.{IsWritable, StateValue, asked_data, asked_in, last_data, last_in, number_data, number_in}
use Rattle.seat_ask.specs.Prelude.{place_data, place_in, state_data, state_in, stop_data, stop_in}
use Rattle.seat_ask.proofs.Asides.{aside_of-new}

place_again : (p : Place) → place_in (place_data p) ≡ Some p
place_again Unknown = refl
place_again (Free n) = refl
place_again (UnderWay sent) = refl

last_again : (l : Option Answered) → last_in (last_data l) ≡ Some l
last_again None = refl
last_again (Some l) = refl

stop_again : (s : Option Stop) → IfSome s (λ stop. stop.code < 256) → stop_in (stop_data s) ≡ Some s
stop_again None low = refl
stop_again (Some s) low = let below : nat_lt s.code 256 ≡ true = lt-ltb s.code 256 low in rw below refl

numbers_again : (ns : List ℕ) → all_of number_in (json_items (items_of (map number_data ns))) ≡ Some ns
numbers_again [] = refl
numbers_again (n ∷ ns) = rw (numbers_again ns) refl

requests_again : (rs : List Asked) → all_of asked_in (json_items (items_of (map asked_data rs))) ≡ Some rs
requests_again [] = refl
requests_again (r ∷ rs) = rw (requests_again rs) refl

pub state_again : (s : StateValue) → IsWritable s → state_in (state_data s) ≡ Some s
unfolding state_in
state_again s whole = rw (
  place_again s.file.place,
  last_again s.file.last,
  stop_again s.file.stop whole.code,
  numbers_again s.file.aside,
  requests_again s.requests,
  aside_of-new s.file.aside whole.once whole.few,
) refl
