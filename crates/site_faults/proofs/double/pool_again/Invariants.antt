use Rattle.std.proofs.Common.{◌≡◌, [], drop, take}
use Rattle.site_core.specs.Prelude.{pools_meet}
use Rattle.site_faults.specs.Prelude.{first_again}
use Rattle.site_faults.proofs.double.pool_again.Given as goal

abbrev pub invariant-loop-index : goal.invariant-loop-index
invariant-loop-index l = first_again pools_meet [] l.pools ≡ first_again pools_meet (take l.index l.pools) (drop l.index l.pools)
