use Rattle.fuse_plan.proofs.Pending.{rest_law}
use Rattle.fuse_plan.proofs.laws.rest_law.Goals as goal

pub returns : goal.returns
returns c = rest_law
