use Rattle.std.proofs.Common.{◌≡◌, take}
use Rattle.fuse_plan.specs.Prelude.{digits_value}
use Rattle.fuse_plan.proofs.number.value_of.Given as goal

abbrev pub invariant-loop-digit : goal.invariant-loop-digit
invariant-loop-digit l = l.value ≡ digits_value (take l.digit-index l.digits)
