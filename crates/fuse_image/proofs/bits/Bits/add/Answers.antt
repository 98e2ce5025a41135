use Rattle.std.proofs.Common.{ap, ◌∙◌}
use Rattle.std.specs.FinSet as set
use Rattle.fuse_image.specs.Prelude.{Positions}
use Rattle.fuse_image.proofs.BitSets.{positions_of-insert}
use Rattle.fuse_image.proofs.bits.Bits.add.Goals as goal

pub returns : goal.returns
returns c =
    positions_of-insert c.self.inside.words c.args.pos c.index_of.result c.index_of.ensures c.requires c.self.invariant.count
    ∙ ap (λ (s : Positions). set.insert s c.args.pos) c.self.view_is
