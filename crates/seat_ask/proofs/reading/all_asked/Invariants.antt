use Rattle.std.proofs.Common.{◌≡◌, Some, map, take}
use Rattle.serde_json.specs.View.{view}
use Rattle.text_core.specs.Prelude.{all_of}
use Rattle.seat_ask.specs.Prelude.{asked_in}
use Rattle.seat_ask.proofs.reading.all_asked.Given as goal

abbrev pub invariant-loop-value : goal.invariant-loop-value
invariant-loop-value l = all_of asked_in (map view (take l.value-index l.values)) ≡ Some l.requests.items
