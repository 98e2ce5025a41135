use Rattle.std.proofs.Common.{ap₂, ◌∙◌}
use Rattle.std.specs.FinSet as set
use Rattle.fuse_image.proofs.BitSets.{positions_of-both}
use Rattle.fuse_image.proofs.bits.Bits.join.Goals as goal

pub returns : goal.returns
returns c =
    positions_of-both c.self.inside.words c.other.inside.words c.join_words.result c.join_words.ensures
    ∙ ap₂ set.union c.self.view_is c.other.view_is
