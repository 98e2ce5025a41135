use Rattle.std.proofs.Common.{◌≡◌, ℕ, ◌-◌, ◌*◌, List, ap, ◌∙◌, refl, arith, slice_range, length-set}
use Rattle.std.proofs.lemmas.List.FromFn.{fill_by_all}
use Rattle.text_core.specs.Prelude.{zero_padded}
use Rattle.fuse_plan.specs.Prelude.{digits_value, number_word}
use Rattle.fuse_plan.proofs.Digits.{digits_value-padded, length-padded, word-is}
use Rattle.fuse_plan.proofs.Windows.{one_word_more}
use Rattle.fuse_plan.proofs.number.words_of.Goals as goal

pub loop-index-init : goal.loop-index-init
loop-index-init c = record { count = refl; done = λ k low. absurd (omega (arith, low)) }

pub loop-index-preserved : goal.loop-index-preserved
loop-index-preserved c =
    let words = c.loop-index.words in
    let index = c.loop-index.index in
    let value = digits_value c.args.digits.now in
    let padded = zero_padded 64 c.args.digits.now in
    let here : c.value_of.result ≡ number_word value index =
    c.value_of.ensures
    ∙ (ap (λ (digits : List ℕ). digits_value (slice_range digits (64 - 8 * index - 8) (64 - 8 * index))) c.with_zeros-padded.ensures
    ∙ (word-is padded index (length-padded c.args.digits.now c.requires) c.loop-index-test.true
    ∙ ap (λ (n : ℕ). number_word n index) (digits_value-padded c.args.digits.now))) in
    record {
      count = length-set words index c.value_of.result ∙ c.loop-index.invariant.count;
      done =
          one_word_more (λ k word. word ≡ number_word value k) words index c.value_of.result
          (omega (arith, c.loop-index.invariant.count, c.loop-index-test.true)) c.loop-index.invariant.done here;
    }

pub returns : goal.returns
returns c =
    fill_by_all (number_word (digits_value c.args.digits.now)) c.loop-index.words 8 0 c.loop-index.invariant.count
    (λ k low. c.loop-index.invariant.done k (omega (arith, low, c.loop-index-test.false)))
