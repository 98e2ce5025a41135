use Rattle.std.proofs.Common.{◌≡◌, ◌/◌, ◌%◌, ◌<◌, ℕ, length, slice_index}
use Rattle.fuse_columns.specs.Words as words
use Rattle.fuse_columns.proofs.bits.words_in.Given as goal

abbrev pub invariant-loop-k : goal.invariant-loop-k
invariant-loop-k l = record {
  count : length l.words ≡ 32;
  done : (k : ℕ) → k < l.k → slice_index l.words k ≡ words.word_of_block l.blocks l.bytes (k / 8) (k % 8);
}
