use Rattle.std.proofs.Common.{◌≡◌, drop}
use Rattle.fuse_plan.specs.Prelude.{wanted_key}
use Rattle.fuse_plan.proofs.wants.wanted_key.Given as goal

abbrev pub invariant-loop-wish : goal.invariant-loop-wish
invariant-loop-wish l = wanted_key l.map l.block (drop l.wish-index l.wishes) ≡ wanted_key l.map l.block l.wishes
