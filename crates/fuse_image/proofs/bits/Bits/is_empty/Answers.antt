use Rattle.std.proofs.Common.{get_or, ap, ◌∙◌}
use Rattle.fuse_image.specs.Prelude.{is_empty}
use Rattle.fuse_image.proofs.BitSets.{AreBitsOf-words, is_empty-zeros, positions_of}
use Rattle.fuse_image.proofs.bits.Bits.is_empty.Goals as goal

pub returns : goal.returns
returns c =
    let words = c.self.inside.words in
    is_empty-zeros (λ w. get_or words w 0) (positions_of words) (AreBitsOf-words words) c.self.invariant.small c.are_zeros.result c.are_zeros.ensures
    ∙ ap is_empty c.self.view_is
