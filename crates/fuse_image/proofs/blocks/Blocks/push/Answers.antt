use Rattle.std.proofs.Common.{◌<◌, [], length, ap, arith, length-take-le}
use Rattle.fuse_image.proofs.InFront.{one_more_at_front}
use Rattle.fuse_image.proofs.blocks.Blocks.push.Goals as goal

pub invariant_of-self : goal.invariant_of-self
invariant_of-self c =
    let is = c.self.invariant in
    let size = length-take-le c.self.inside.len c.self.inside.array (omega (arith, is.room, is.within)) in
    let room : c.self.inside.len < 4 = omega (arith, size, ap length c.self.view_is, c.requires) in
    one_more_at_front 4 [] c.self.inside.array c.self.inside.len c.args.block is room
