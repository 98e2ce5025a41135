use Rattle.std.proofs.Common.{◌≡◌, ℕ, ◌<◌, ◌≤◌, get_or, length}
use Rattle.office_tables.specs.Prelude.{largest_number}
use Rattle.yield_report.specs.Prelude.{number_count, sum_at, numbers_in}
use Rattle.yield_report.proofs.sites.total.Given as goal

-- the places so far have their sums, and the tables have room for them
abbrev pub invariant-loop-place : goal.invariant-loop-place
invariant-loop-place l = record {
  long : length l.sums ≡ number_count;
  sums : (k : ℕ) → k < l.place → get_or l.sums k 0 ≡ sum_at (numbers_in l.lines) k;
  fit : (k : ℕ) → k < l.place → sum_at (numbers_in l.lines) k ≤ largest_number;
}
