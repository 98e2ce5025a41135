use Rattle.std.proofs.Common.{◌-◌, ◌≡◌, ◌<◌, ◌≤◌, ℕ, true}
use Rattle.id_ranges.specs.Prelude.{serial_text}
use Rattle.id_ranges.proofs.next.next_serial_from.Given as goal

-- each number so far, from the cursor on, is given by the state at the start
abbrev pub invariant-loop-number : goal.invariant-loop-number
invariant-loop-number g l = record {
  looked : g.G.Given.looks l.given l.fn.state l.state;
  above : l.range.first ≤ l.number;
  high : l.cursor ≤ l.number;
  passed : g.G.Given.is_honest l.given l.state → (k : ℕ) → l.range.first ≤ k → l.cursor ≤ k → k < l.number
      → g.G.Given.tells l.given l.fn.state (serial_text l.range k) ≡ true;
}

abbrev pub decreases-loop-number : goal.decreases-loop-number
decreases-loop-number g l = l.end - l.number
