use Rattle.text_core.proofs.Kit.{nat_cmp, inl, inr, ap, ◌∙◌, arith, contains, slice_cmp, ok_or}
use Rattle.id_ranges.specs.declared.fault.RangeFault.TheVariants.{Exhausted}
use Rattle.id_ranges.proofs.NextNumbers.{cursor_skips}
use Rattle.id_ranges.proofs.next.next_serial.Goals as goal

-- no number is below 0, and a set in memory answers each look-up
pub returns : goal.returns
returns c =
    elim (c.next_serial_from.ensures.exact tt) [
      | inl same ↦
          same
          ∙ ap (λ next. ok_or next Exhausted) (cursor_skips 0 (contains (slice_cmp nat_cmp) c.args.given.now) c.args.range.now (λ n has low.
          absurd (omega arith)))
      | inr unread ↦ let none = rw unread at c.next_serial_from.ensures.looked in absurd none.2
    ]
