use Rattle.std.proofs.Common.{ℕ, ◌<◌, ◌≤◌, get_or}
use Rattle.office_tables.specs.Prelude.{largest_number}
use Rattle.yield_report.proofs.yields.are_storable.Given as goal

-- the tables have room for the numbers so far
abbrev pub invariant-loop-number : goal.invariant-loop-number
invariant-loop-number l = (k : ℕ) → k < l.number-index → get_or l.numbers k 0 ≤ largest_number
