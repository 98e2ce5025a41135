use Rattle.std.proofs.Common.{ap, ◌∙◌}
use Rattle.std.specs.FinSet as set
use Rattle.fuse_image.specs.Prelude.{Positions}
use Rattle.fuse_image.proofs.BitSets.{contains-shifted}
use Rattle.fuse_image.proofs.bits.Bits.has.Goals as goal

pub returns : goal.returns
returns c =
    contains-shifted c.self.inside.words c.args.pos c.index_of.result c.index_of.ensures c.requires
    ∙ ap (λ (s : Positions). set.contains s c.args.pos) c.self.view_is
