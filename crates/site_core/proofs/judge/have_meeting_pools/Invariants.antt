use Rattle.std.proofs.Common.{◌≡◌, drop}
use Rattle.site_core.specs.Prelude.{pools_meet, has_pair}
use Rattle.site_core.proofs.judge.have_meeting_pools.Given as goal

abbrev pub invariant-loop-index : goal.invariant-loop-index
invariant-loop-index l = has_pair pools_meet l.pools ≡ has_pair pools_meet (drop l.index l.pools)
