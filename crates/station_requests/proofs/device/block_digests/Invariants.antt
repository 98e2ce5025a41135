use Rattle.std.proofs.Common.{◌≡◌, map, take}
use Rattle.serde_json.specs.View.{view}
use Rattle.station_requests.specs.Prelude.{block_digest}
use Rattle.station_requests.proofs.device.block_digests.Given as goal

abbrev pub invariant-loop-index : goal.invariant-loop-index
invariant-loop-index l = map view l.digests.items ≡ map block_digest (take l.index l.blocks)
