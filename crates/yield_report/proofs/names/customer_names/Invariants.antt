use Rattle.std.proofs.Common.{◌≡◌, ◌-◌, drop, length, map}
use Rattle.yield_report.specs.Prelude.{sorted_names}
use Rattle.yield_report.proofs.names.customer_names.Given as goal

-- the names of the last customers so far are in order
abbrev pub invariant-loop-i : goal.invariant-loop-i
invariant-loop-i l = l.names.items ≡ sorted_names (drop (length l.customers - l.i) (map (λ c. c.name) l.customers))
