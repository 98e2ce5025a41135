use Rattle.std.proofs.Common.{refl, subst, sym}
use Rattle.std.proofs.lemmas.List.Elements.{All-push}
use Rattle.yield_counts.specs.Left.{AreLeftOf, IsLeft}
use Rattle.yield_counts.proofs.left.LeftCounts.keep.Goals as goal

pub returns-in-Ok : goal.returns-in-Ok
returns-in-Ok c = λ given right is.
    c.put.ensures given (c.take_out-ranges.ensures.others given given right (λ other apart. refl))
    (subst (AreLeftOf (given c.args.issuer.now)) (sym c.in-Ok.ensures.items) (All-push (IsLeft (given c.args.issuer.now)) c.take_out-ranges.result.items _
    (c.take_out-ranges.ensures.ranges given right) (record { range = c.width-width.ensures.range; left = is })))

pub returns-in_default : goal.returns-in_default
returns-in_default c = λ given right is. c.take_out-ranges.ensures.others given given right (λ other apart. refl)
