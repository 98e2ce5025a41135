use Rattle.std.proofs.Common.{◌≡◌, Some, map, take}
use Rattle.serde_json.specs.View.{view}
use Rattle.text_core.specs.Prelude.{all_of}
use Rattle.station_requests.specs.Prelude.{named_wish}
use Rattle.station_requests.proofs.plan.named_wishes.Given as goal

abbrev pub invariant-loop-value : goal.invariant-loop-value
invariant-loop-value l = all_of named_wish (map view (take l.value-index l.values)) ≡ Some (map view l.wishes.items)
