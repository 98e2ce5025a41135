use Rattle.std.proofs.Common.{bit_or}
use Rattle.fuse_image.specs.Prelude.{mask_of}
use Rattle.fuse_image.proofs.Changed.{AreChanged}
use Rattle.fuse_image.proofs.bits.with_range.Given as goal

abbrev pub invariant-loop-word : goal.invariant-loop-word
invariant-loop-word l = AreChanged (λ k x. bit_or x (mask_of l.start l.end k)) l.own l.words l.word
