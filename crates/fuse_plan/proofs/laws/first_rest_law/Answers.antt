use Rattle.fuse_plan.proofs.Pending.{first_rest_law}
use Rattle.fuse_plan.proofs.laws.first_rest_law.Goals as goal

pub returns : goal.returns
returns c = first_rest_law
