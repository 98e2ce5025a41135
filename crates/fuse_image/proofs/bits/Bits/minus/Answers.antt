use Rattle.std.proofs.Common.{ap₂, ◌∙◌}
use Rattle.std.specs.FinSet as set
use Rattle.fuse_image.proofs.BitSets.{positions_of-without}
use Rattle.fuse_image.proofs.bits.Bits.minus.Goals as goal

pub returns : goal.returns
returns c =
    positions_of-without c.self.inside.words c.other.inside.words c.without.result c.other.invariant c.without.ensures
    ∙ ap₂ set.difference c.self.view_is c.other.view_is
