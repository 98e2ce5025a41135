use Rattle.std.proofs.Common.{◌≡◌, take}
use Rattle.yield_report.specs.Prelude.{lines_text}
use Rattle.yield_report.proofs.orders.order_text.Given as goal

-- the text so far is that of the lines so far
abbrev pub invariant-loop-line : goal.invariant-loop-line
invariant-loop-line l = l.text.items ≡ lines_text (take l.line-index l.lines)
