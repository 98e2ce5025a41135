use Rattle.std.proofs.Common.{get_or, bit_and, w32}
use Rattle.std.specs.Int.{bit_not}
use Rattle.fuse_image.proofs.Changed.{AreChanged}
use Rattle.fuse_image.proofs.bits.without.Given as goal

abbrev pub invariant-loop-word : goal.invariant-loop-word
invariant-loop-word l = AreChanged (λ k x. bit_and x (bit_not w32 (get_or l.other k 0))) l.own l.words l.word
