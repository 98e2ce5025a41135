use Rattle.std.proofs.Common.{◌≡◌, map, take}
use Rattle.fuse_image.proofs.words.copy_of.Given as goal

abbrev pub invariant-loop-words : goal.invariant-loop-words
invariant-loop-words l = l.copy ≡ map (λ words. words.items) (take l.words-index l.blocks)
