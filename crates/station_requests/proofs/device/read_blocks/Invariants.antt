use Rattle.std.proofs.Common.{◌≡◌, Some, map, take}
use Rattle.serde_json.specs.View.{view}
use Rattle.text_core.specs.Prelude.{all_of}
use Rattle.station_requests.specs.Prelude.{block_in}
use Rattle.station_requests.proofs.device.read_blocks.Given as goal

abbrev pub invariant-loop-value : goal.invariant-loop-value
invariant-loop-value l = all_of block_in (map view (take l.value-index l.values)) ≡ Some (map (λ words. words.items) l.blocks.items)
