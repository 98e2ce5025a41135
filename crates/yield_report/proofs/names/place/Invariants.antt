use Rattle.std.proofs.Common.{◌≡◌, length}
use Rattle.office_tables.specs.Prelude.{text_cmp}
use Rattle.yield_report.proofs.Placed.{IsPassed}
use Rattle.yield_report.proofs.names.place.Given as goal

-- the names so far are less, and nothing is changed
abbrev pub invariant-loop-i : goal.invariant-loop-i
invariant-loop-i l = record {
  same : l.names.items ≡ l.fn.names.items;
  passed : IsPassed text_cmp l.name l.fn.names.items l.i;
  end : l.i-end ≡ length l.fn.names.items;
}
