use Rattle.fuse_plan.proofs.Pending.{plan_law}
use Rattle.fuse_plan.proofs.laws.plan_law.Goals as goal

pub returns : goal.returns
returns c = plan_law
