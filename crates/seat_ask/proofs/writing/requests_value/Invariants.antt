use Rattle.std.proofs.Common.{◌≡◌, map, take}
use Rattle.serde_json.specs.View.{view}
use Rattle.seat_ask.specs.Prelude.{asked_data}
use Rattle.seat_ask.proofs.writing.requests_value.Given as goal

abbrev pub invariant-loop-asked : goal.invariant-loop-asked
invariant-loop-asked l = map view l.values.items ≡ map asked_data (take l.asked-index l.requests)
