use Rattle.std.proofs.Common.{◌≡◌, drop}
use Rattle.id_ranges.specs.Prelude.{reserved_start}
use Rattle.id_ranges.proofs.blocks.reserve.Given as goal

abbrev pub invariant-loop-pool : goal.invariant-loop-pool
invariant-loop-pool l =
    reserved_start (drop l.pool-index l.pools) l.reserved l.count ≡ reserved_start l.pools l.reserved l.count
