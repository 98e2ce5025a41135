use Rattle.std.proofs.Common.{◌∙◌, ℕ, List, Global, None, Vec, sym}
use Rattle.yield_counts.specs.Left.{AreLeftOf}
use Rattle.yield_counts.specs.declared.left.RangeLeft.{RangeLeft}
use Rattle.yield_counts.proofs.Kept.{fit_put}
use Rattle.yield_counts.proofs.left.LeftCounts.take_out.Goals as goal

pub returns-in-Some-clause-ranges : goal.returns-in-Some-clause-ranges
returns-in-Some-clause-ranges c = λ given right. right c.args.issuer.now c.in-Some.ranges (sym c.remove.ensures.value ∙ c.in-Some.is)

pub returns-in-Some-clause-others : goal.returns-in-Some-clause-others
returns-in-Some-clause-others c = λ given after right agree.
    let Fits : List ℕ → Vec RangeLeft Global → Type 0 = λ issuer ranges. AreLeftOf (given issuer) ranges.items in
    let After : List ℕ → Vec RangeLeft Global → Type 0 = λ issuer ranges. AreLeftOf (after issuer) ranges.items in
    fit_put Fits After c.args.issuer.now None c.args.self.now.issuers c.remove.new.self
    (λ other apart ranges fits. rw (agree other apart) fits) right
    (λ ranges none. absurd (let e = none in cc)) c.remove.ensures.updates.0

pub returns-in-None-clause-others : goal.returns-in-None-clause-others
returns-in-None-clause-others c = λ given after right agree.
    let Fits : List ℕ → Vec RangeLeft Global → Type 0 = λ issuer ranges. AreLeftOf (given issuer) ranges.items in
    let After : List ℕ → Vec RangeLeft Global → Type 0 = λ issuer ranges. AreLeftOf (after issuer) ranges.items in
    fit_put Fits After c.args.issuer.now None c.args.self.now.issuers c.remove.new.self
    (λ other apart ranges fits. rw (agree other apart) fits) right
    (λ ranges none. absurd (let e = none in cc)) c.remove.ensures.updates.0
