use Rattle.std.proofs.Common.{◌≡◌, ◌*◌, ◌≤◌, get_or}
use Rattle.text_core.proofs.Kit.{ℕ, bit_or, sym, ap, ap₂, ◌∙◌, inl, inr, arith, or_zero_r, cases_lt}
use Rattle.fuse_image.specs.Prelude.{mask_of}
use Rattle.fuse_image.proofs.Changed.{AreChanged-none, AreChanged-more}
use Rattle.fuse_image.proofs.Masks.{mask_of-before, mask_of-after}
use Rattle.fuse_image.proofs.bits.with_range.Goals as goal

pub loop-word-init : goal.loop-word-init
loop-word-init c =
    AreChanged-none (λ k x. bit_or x (mask_of c.args.start c.args.end k)) c.args.own.now _ (λ k low.
    sym (ap (bit_or (get_or c.args.own.now k 0)) (mask_of-before c.args.start c.args.end k (omega (arith, low))) ∙ or_zero_r (get_or c.args.own.now k 0)))

pub loop-word-preserved : goal.loop-word-preserved
loop-word-preserved c =
    AreChanged-more (λ k x. bit_or x (mask_of c.args.start c.args.end k)) c.args.own.now c.loop-word.words c.loop-word.word c.from.result _
    c.loop-word.invariant c.from.ensures (omega (arith, c.loop-word.invariant.count, c.loop-word-test.true, c.div_ceil-word-end.ensures))
    (ap₂ (λ (index mask : ℕ). bit_or (get_or c.loop-word.words index 0) mask) c.from.ensures c.mask.ensures)

pub returns : goal.returns
returns c word low =
    elim (cases_lt word c.loop-word.word) as (λ _. get_or c.loop-word.words word 0
    ≡ bit_or (get_or c.args.own.now word 0) (mask_of c.args.start c.args.end word)) [
      | inl below ↦ c.loop-word.invariant.done word below
      | inr above ↦
          let after : c.args.end ≤ 32 * word = omega (arith, above, c.loop-word-test.false, c.div_ceil-word-end.ensures) in
          c.loop-word.invariant.left word above
          ∙ sym (ap (bit_or (get_or c.args.own.now word 0)) (mask_of-after c.args.start c.args.end word after) ∙ or_zero_r (get_or c.args.own.now word 0))
    ]
