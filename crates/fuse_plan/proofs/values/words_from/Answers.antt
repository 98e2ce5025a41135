use Rattle.std.proofs.Common.{◌≡◌, ◌<◌, ◌+◌, ℕ, length, set, subst, sym, ◌∙◌, arith, ◌==◌, slice_index, length-set}
use Rattle.std.specs.Int.{bit_at}
use Rattle.fuse_image.specs.Prelude.{position_of_bit}
use Rattle.fuse_plan.specs.Prelude.{is_one_from}
use Rattle.fuse_plan.proofs.Windows.{one_word_more}
use Rattle.fuse_plan.proofs.values.words_from.Goals as goal

pub loop-word-preserved : goal.loop-word-preserved
loop-word-preserved c =
    let words = c.loop-word.words in
    let word = c.loop-word.word in
    let right : ℕ → ℕ → Type 0 = λ (k value : ℕ). (bit : ℕ) → bit < 32
    → (bit_at value bit == 1)
    ≡ is_one_from c.args.value.now c.args.first (position_of_bit k bit) in
    let within : word < length words = omega (arith, c.loop-word.invariant.count, c.loop-word-test.true) in
    let more : (k : ℕ) → k < word + 1 → right k (slice_index (set words word c.word_from.result) k) =
    one_word_more right words word c.word_from.result within (λ k low bit small. c.loop-word.invariant.done k bit low small) c.word_from.ensures in
    record {
      count = length-set words c.from.result c.word_from.result ∙ c.loop-word.invariant.count;
      done =
          λ k bit low small. subst (λ (n : ℕ). (bit_at (slice_index (set words n c.word_from.result) k) bit == 1)
          ≡ is_one_from c.args.value.now c.args.first (position_of_bit k bit)) (sym c.from.ensures) (more k low bit small);
    }
