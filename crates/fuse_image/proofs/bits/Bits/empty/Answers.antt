use Rattle.fuse_image.proofs.BitSets.{AreWords-zeros, positions_of-zeros}
use Rattle.fuse_image.proofs.bits.Bits.empty.Goals as goal

pub invariant_of-result : goal.invariant_of-result
invariant_of-result c = AreWords-zeros

pub returns : goal.returns
returns c = positions_of-zeros
