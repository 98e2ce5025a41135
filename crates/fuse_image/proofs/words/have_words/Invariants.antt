use Rattle.std.proofs.Common.{◌≡◌, map, drop}
use Rattle.std.specs.List.{list_all}
use Rattle.fuse_image.specs.Prelude.{is_block}
use Rattle.fuse_image.proofs.words.have_words.Given as goal

abbrev pub invariant-loop-words : goal.invariant-loop-words
invariant-loop-words l =
    list_all is_block (map (λ words. words.items) (drop l.words-index l.blocks)) ≡ list_all is_block (map (λ words. words.items) l.blocks)
