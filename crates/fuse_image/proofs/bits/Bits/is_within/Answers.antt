use Rattle.std.proofs.Common.{ap, ◌∙◌}
use Rattle.fuse_image.specs.Prelude.{is_empty}
use Rattle.fuse_image.proofs.Sets.{is_empty-difference}
use Rattle.fuse_image.proofs.bits.Bits.is_within.Goals as goal

pub returns : goal.returns
returns c = c.is_empty.ensures ∙ (ap is_empty c.minus.ensures ∙ is_empty-difference c.args.self.now c.args.other.now)
