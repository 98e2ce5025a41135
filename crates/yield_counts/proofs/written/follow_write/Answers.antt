use Rattle.std.proofs.Common.{subst, sym}
use Rattle.yield_counts.specs.Counts.{has_issued_in, HasIssued}
use Rattle.yield_counts.specs.Left.{AreLeft}
use Rattle.yield_counts.proofs.Following.{issued_more, issued_stays}
use Rattle.yield_counts.proofs.written.follow_write.Goals as goal

pub returns-in-AddGiven : goal.returns-in-AddGiven
returns-in-AddGiven c = λ t after free is right.
    c.take.ensures (has_issued_in t) (has_issued_in after)
    (issued_more c.in-AddGiven.row t after (rw c.in-AddGiven.is at free) (rw c.in-AddGiven.is at is)) right

pub returns-in_default : goal.returns-in_default
returns-in_default c = λ t after free is right.
    subst (λ (given : HasIssued). AreLeft given c.args.counts.now) (sym (issued_stays c.args.write.now c.in_default.not-AddGiven t after is)) right
