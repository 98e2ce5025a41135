use Rattle.std.proofs.Common.{◌≡◌, min, take}
use Rattle.yield_report.specs.Prelude.{sum_at, numbers_in}
use Rattle.yield_report.proofs.sites.sum_at.Given as goal

-- the sum so far is that of the lines so far, or the largest number there is
abbrev pub invariant-loop-line : goal.invariant-loop-line
invariant-loop-line l = l.sum ≡ min (sum_at (numbers_in (take l.line-index l.lines)) l.place) 18446744073709551615
