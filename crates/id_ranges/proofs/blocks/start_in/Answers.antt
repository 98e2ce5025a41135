use Rattle.std.proofs.Common.{◌+◌, ◌-◌, inl, inr, sym, arith}
use Rattle.std.proofs.lemmas.Bool.{cases_lt}
use Rattle.id_ranges.specs.Prelude.{is_free}
use Rattle.id_ranges.proofs.Ranges.{find-range_some, find-range_none}
use Rattle.id_ranges.proofs.blocks.start_in.Goals as goal

pub returns-then-end-start : goal.returns-then-end-start
returns-then-end-start c =
    let passes = c.end_of_meeting-end.ensures.free c.if-end-start.true in
    rw c.new.ensures
    (sym (find-range_some (is_free c.args.reserved.now c.args.count) c.args.pool.now.first
    (c.args.pool.now.count + 1 - c.args.count) c.loop-start.start c.loop-start.invariant.0 (omega arith) passes c.loop-start.invariant.1))

pub loop-start-preserved : goal.loop-start-preserved
loop-start-preserved c = (
  omega arith,
  λ k low high.
      elim (cases_lt k c.loop-start.start) [
        | inl before ↦ c.loop-start.invariant.1 k low before
        | inr after ↦ c.end_of_meeting-end.ensures.taken k after high
      ],
)

pub returns : goal.returns
returns c =
    sym (find-range_none (is_free c.args.reserved.now c.args.count) c.args.pool.now.first (c.args.pool.now.count + 1 - c.args.count) (λ j above below.
    c.loop-start.invariant.1 j above (omega arith)))
