use Rattle.std.proofs.Common.{◌≡◌, take}
use Rattle.fuse_plan.specs.Prelude.{asked_by, asks_one, asks_zero}
use Rattle.fuse_plan.proofs.wants.wants_of.Given as goal

abbrev pub invariant-loop-wish : goal.invariant-loop-wish
invariant-loop-wish l = record {
  ones : l.ones ≡ asked_by (asks_one l.map) (take l.wish-index l.wishes);
  zeros : l.zeros ≡ asked_by (asks_zero l.map) (take l.wish-index l.wishes);
}
