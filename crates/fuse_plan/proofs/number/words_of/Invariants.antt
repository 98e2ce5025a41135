use Rattle.std.proofs.Common.{◌≡◌, ℕ, ◌<◌, length, slice_index}
use Rattle.fuse_plan.specs.Prelude.{digits_value, number_word}
use Rattle.fuse_plan.proofs.number.words_of.Given as goal

abbrev pub invariant-loop-index : goal.invariant-loop-index
invariant-loop-index l = record {
  count : length l.words ≡ 8;
  done : (k : ℕ) → k < l.index → slice_index l.words k ≡ number_word (digits_value l.digits) k;
}
