use Rattle.std.proofs.Common.{ap₂, ◌∙◌}
use Rattle.std.specs.FinSet as set
use Rattle.fuse_image.proofs.BitSets.{positions_of-shared}
use Rattle.fuse_image.proofs.bits.Bits.meet.Goals as goal

pub returns : goal.returns
returns c =
    positions_of-shared c.self.inside.words c.other.inside.words c.shared.result c.shared.ensures
    ∙ ap₂ set.intersection c.self.view_is c.other.view_is
