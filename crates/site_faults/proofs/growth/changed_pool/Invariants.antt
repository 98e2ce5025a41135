use Rattle.std.proofs.Common.{◌≡◌, drop}
use Rattle.site_faults.specs.Prelude.{pool_changed}
use Rattle.site_faults.proofs.growth.changed_pool.Given as goal

abbrev pub invariant-loop-index : goal.invariant-loop-index
invariant-loop-index l = pool_changed 0 l.old l.new ≡ pool_changed l.index (drop l.index l.old) (drop l.index l.new)
