use Rattle.fuse_plan.proofs.Digits.{put_behind}
use Rattle.fuse_plan.proofs.number.with_zeros.Goals as goal

pub returns : goal.returns
returns c = put_behind c.args.digits.now c.copy_from_slice.new.self c.copy_from_slice.ensures.after
