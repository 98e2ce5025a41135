use Rattle.fuse_plan.proofs.Pending.{second_rest_law}
use Rattle.fuse_plan.proofs.laws.second_rest_law.Goals as goal

pub returns : goal.returns
returns c = second_rest_law
