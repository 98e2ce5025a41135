use Rattle.std.proofs.Common.{◌≡◌, ◌<◌, ℕ, length, ◌==◌, slice_index}
use Rattle.std.specs.Int.{bit_at}
use Rattle.fuse_image.specs.Prelude.{position_of_bit}
use Rattle.fuse_plan.specs.Prelude.{is_one_from}
use Rattle.fuse_plan.proofs.values.words_from.Given as goal

abbrev pub invariant-loop-word : goal.invariant-loop-word
invariant-loop-word l = record {
  count : length l.words ≡ 32;
  done : (word bit : ℕ) → word < l.word → bit < 32 → (bit_at (slice_index l.words word) bit == 1) ≡ is_one_from l.value l.first (position_of_bit word bit);
}
