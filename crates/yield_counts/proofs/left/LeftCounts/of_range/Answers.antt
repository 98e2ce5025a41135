use Rattle.std.proofs.Common.{sym, subst}
use Rattle.yield_counts.specs.Left.{AreLeftOf}
use Rattle.yield_counts.proofs.left.LeftCounts.of_range.Goals as goal

pub returns-in-Some : goal.returns-in-Some
returns-in-Some c = λ given right.
    let issuer = c.args.issuer.now in
    c.left_in.ensures (given issuer) (subst (AreLeftOf (given issuer)) (sym c.deref.ensures.value)
    (right issuer c.in-Some.ranges.now (sym (rw c.in-Some.is at c.get.ensures.value))))
