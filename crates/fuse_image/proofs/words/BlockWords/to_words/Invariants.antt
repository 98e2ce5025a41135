use Rattle.std.proofs.Common.{◌≡◌, ◌/◌, ◌%◌, ◌<◌, ℕ, [], length, slice_index, slice_index_or}
use Rattle.fuse_image.proofs.words.BlockWords.to_words.Given as goal

abbrev pub invariant-loop-k : goal.invariant-loop-k
invariant-loop-k l = record {
  count : length l.words ≡ 32;
  done : (k : ℕ) → k < l.k → slice_index l.words k ≡ slice_index (slice_index_or l.self (k / 8) []) (k % 8);
}
