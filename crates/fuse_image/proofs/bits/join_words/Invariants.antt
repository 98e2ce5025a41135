use Rattle.std.proofs.Common.{get_or, bit_or}
use Rattle.fuse_image.proofs.Changed.{AreChanged}
use Rattle.fuse_image.proofs.bits.join_words.Given as goal

abbrev pub invariant-loop-word : goal.invariant-loop-word
invariant-loop-word l = AreChanged (λ k x. bit_or x (get_or l.other k 0)) l.own l.words l.word
