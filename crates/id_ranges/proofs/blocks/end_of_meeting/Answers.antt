use Rattle.std.proofs.Common.{◌≡◌}
use Rattle.text_core.proofs.Kit.{inl, inr, sym, ◌∙◌, ap, arith, slice_index_or, cases_lt, get_or_default}
use Rattle.id_ranges.specs.Prelude.{blocks_overlap}
use Rattle.id_ranges.proofs.FreeBlocks.{not_free_later, free_from_none, end_past_start}
use Rattle.id_ranges.proofs.blocks.end_of_meeting.Goals as goal
use Rattle.id_ranges.proofs.blocks.end_of_meeting.Goals.{then-meets, else-meets}

pub loop-interval-preserved : goal.loop-interval-preserved
loop-interval-preserved c =
    elim c.if-meets.branch [
      | then-meets w ↦
          let meets = sym c.meets.ensures ∙ w.if-meets.true in
          let past = end_past_start c.loop-interval.end c.args.count c.interval-item.result meets in (
            omega arith,
            λ k low high.
                elim (cases_lt k c.loop-interval.end) [
                  | inl before ↦ c.loop-interval.invariant.1 k low before
                  | inr after ↦
                      not_free_later c.args.reserved.now c.loop-interval.end c.args.count k c.loop-interval.interval-index
                      c.interval-item.result c.requires.count c.loop-interval-test.true c.interval-item.is meets after (omega arith)
                ],
            λ same. absurd (omega arith),
          )
      | else-meets w ↦ (
        omega arith,
        λ k low high. c.loop-interval.invariant.1 k low (omega arith),
        λ same j d below.
            elim (cases_lt j c.loop-interval.interval-index) [
              | inl before ↦ c.loop-interval.invariant.2 (sym w.end-is ∙ same) j d before
              | inr after ↦
                  let last : j ≡ c.loop-interval.interval-index = omega arith in
                  let here : slice_index_or c.args.reserved.now j d ≡ c.interval-item.result =
                  ap (λ i. slice_index_or c.args.reserved.now i d) last
                  ∙ get_or_default c.args.reserved.now c.loop-interval.interval-index d c.interval-item.result c.loop-interval-test.true
                  ∙ sym c.interval-item.is in
                  ap (blocks_overlap (c.args.start, c.args.count)) here
                  ∙ ap (λ n. blocks_overlap (n, c.args.count) c.interval-item.result) (sym same ∙ w.end-is) ∙ sym c.meets.ensures ∙ w.if-meets.false
            ],
      )
    ]

pub returns-clause-free : goal.returns-clause-free
returns-clause-free c = λ same.
    free_from_none c.args.reserved.now c.args.start c.args.count (λ j d below. c.loop-interval.invariant.2 same j d (omega arith))
