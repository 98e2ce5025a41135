use Rattle.std.proofs.Common.{◌≡◌, drop}
use Rattle.text_core.specs.Prelude.{first_that_holds}
use Rattle.fuse_plan.proofs.faults.first_fault.Given as goal

abbrev pub invariant-loop-holds : goal.invariant-loop-holds
invariant-loop-holds l = first_that_holds (drop l.holds-index l.faults) ≡ first_that_holds l.faults
