use Rattle.std.proofs.Common.{◌≡◌, ℕ, List, Global, Some, Vec, subst}
use Rattle.yield_counts.specs.Left.{AreLeftOf}
use Rattle.yield_counts.specs.declared.left.RangeLeft.{RangeLeft}
use Rattle.yield_counts.proofs.Kept.{fit_put}
use Rattle.yield_counts.proofs.left.LeftCounts.put.Goals as goal

pub returns-in-Ok : goal.returns-in-Ok
returns-in-Ok c = λ given right are.
    let Fits : List ℕ → Vec RangeLeft Global → Type 0 = λ issuer ranges. AreLeftOf (given issuer) ranges.items in
    fit_put Fits Fits c.args.issuer.now (Some c.args.ranges) c.args.self.now.issuers c.insert.new.self (λ other apart ranges fits. fits) right
    (λ ranges is.
    let same : c.args.ranges ≡ ranges = (let e = is in cc) in
    subst (Fits c.args.issuer.now) same are) c.in-Ok.ensures.updates.0

pub returns : goal.returns
returns c = λ given right are. rw c.in-Err.ensures.err right
