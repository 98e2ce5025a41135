use Rattle.std.proofs.Common.{◌+◌, ◌-◌, ◌≡◌, ◌<◌, ◌≤◌, ℕ, false}
use Rattle.id_ranges.specs.Prelude.{is_free}
use Rattle.id_ranges.proofs.blocks.start_in.Given as goal

abbrev pub invariant-loop-start : goal.invariant-loop-start
invariant-loop-start l =
    (l.pool.first ≤ l.start) × ((k : ℕ) → l.pool.first ≤ k → k < l.start → is_free l.reserved l.count k ≡ false)

abbrev pub decreases-loop-start : goal.decreases-loop-start
decreases-loop-start l = l.last + 1 - l.start
