use Rattle.std.proofs.Common.{◌≡◌, ◌<◌, ◌≤◌, ℕ, false, slice_index_or}
use Rattle.id_ranges.specs.Prelude.{blocks_overlap, is_free}
use Rattle.id_ranges.proofs.blocks.end_of_meeting.Given as goal

abbrev pub invariant-loop-interval : goal.invariant-loop-interval
invariant-loop-interval l =
    (l.start ≤ l.end) × ((k : ℕ) → l.start ≤ k → k < l.end → is_free l.reserved l.count k ≡ false)
    × (l.end ≡ l.start → (j : ℕ) (d : ℕ × ℕ) → j < l.interval-index
    → blocks_overlap (l.start, l.count) (slice_index_or l.reserved j d) ≡ false)
