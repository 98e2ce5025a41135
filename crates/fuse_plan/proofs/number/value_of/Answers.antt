use Rattle.std.proofs.Common.{refl, arith, slice_index}
use Rattle.fuse_plan.specs.Prelude.{digits_value}
use Rattle.fuse_plan.proofs.Digits.{digits_value-more, fits-more}
use Rattle.fuse_plan.proofs.number.value_of.Goals as goal

pub loop-digit-init : goal.loop-digit-init
unfolding digits_value
loop-digit-init c = refl

pub overflow_mul-value : goal.overflow_mul-value
overflow_mul-value c =
    omega (arith, c.loop-digit.invariant, fits-more c.args.digits.now c.loop-digit.digit-index 48 c.loop-digit-test.true c.requires)

pub overflow_add-value : goal.overflow_add-value
overflow_add-value c =
    let i = c.loop-digit.digit-index in
    omega (
      arith,
      c.loop-digit.invariant,
      c.digit_value.ensures,
      fits-more c.args.digits.now i (slice_index c.args.digits.now i) c.loop-digit-test.true c.requires,
    )

pub loop-digit-preserved : goal.loop-digit-preserved
loop-digit-preserved c =
    let i = c.loop-digit.digit-index in
    let more = digits_value-more c.args.digits.now i 0 c.loop-digit-test.true in
    omega (arith, c.loop-digit.invariant, c.digit_value.ensures, more)
