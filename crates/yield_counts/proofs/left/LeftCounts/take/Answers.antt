use Rattle.std.proofs.Common.{subst, sym}
use Rattle.yield_counts.specs.Left.{AreLeftOf}
use Rattle.yield_counts.proofs.Taken.{agree_off, own_follows, ranges_taken}
use Rattle.yield_counts.proofs.left.LeftCounts.take.Goals as goal

pub returns : goal.returns
returns c = λ given after too right.
    let issuer = c.args.issuer.now in
    let s = c.args.serial.now in
    c.put.ensures after (c.take_out-ranges.ensures.others given after right (agree_off issuer s given after too))
    (subst (AreLeftOf (after issuer)) (sym c.take_in.ensures)
    (ranges_taken (given issuer) (after issuer) s too.new (own_follows issuer s given after too) c.take_out-ranges.result.items
    (c.take_out-ranges.ensures.ranges given right)))
