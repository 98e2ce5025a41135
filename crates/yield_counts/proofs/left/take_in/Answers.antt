use Rattle.std.proofs.Common.{◌∙◌, ◌<◌, ap, arith, length, set, sym}
use Rattle.std.proofs.lemmas.List.Edits.{map_over_more}
use Rattle.yield_counts.specs.Left.{less_one}
use Rattle.yield_counts.proofs.left.take_in.Goals as goal

pub loop-one-preserved : goal.loop-one-preserved
loop-one-preserved c =
    let f = less_one c.args.serial.now in
    let items = c.args.ranges.now.items in
    let within : c.loop-one.one-index < length items = omega (arith, c.loop-one-test.true, ap length c.deref_mut-one-items.ensures.value) in
    ap (set c.loop-one.one-items c.loop-one.one-index) (c.take_one.ensures ∙ ap f (sym c.one-item.is)) ∙
    map_over_more f items c.loop-one.one-items c.loop-one.one-index c.one-item.result within c.loop-one.invariant c.one-item.is
