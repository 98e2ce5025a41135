use Rattle.std.proofs.Common.{◌+◌, ◌<◌, arith, refl, take}
use Rattle.std.specs.Str.Parse.{digits_value}
use Rattle.yield_counts.proofs.Digits.{value_is_small, value_more}
use Rattle.yield_counts.proofs.serials.number_of.Goals as goal

pub loop-digit-preserved : goal.loop-digit-preserved
loop-digit-preserved c = λ all.
    let digits = c.args.digits.now in
    let i = c.loop-digit.digit-index in
    let so_far = c.loop-digit.invariant all in
    let more = value_more digits i _ all c.loop-digit-test.true refl in
    let small : digits_value 10 (take (i + 1) digits) < 1000000000 = value_is_small digits (i + 1) all c.requires in
    omega (arith, so_far, more.0, more.1, small)
