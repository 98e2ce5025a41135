use Rattle.fuse_plan.proofs.InMap.{rests_in_map}
use Rattle.fuse_plan.proofs.laws.rests_in_map.Goals as goal

pub returns : goal.returns
returns c = rests_in_map
