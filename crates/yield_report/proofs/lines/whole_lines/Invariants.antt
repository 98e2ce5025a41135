use Rattle.std.proofs.Common.{take}
use Rattle.office_tables.specs.Prelude.{rows_of, Reads}
use Rattle.yield_report.specs.Prelude.{has_issued_in}
use Rattle.yield_report.proofs.WholeLines.{AreLinesOf}
use Rattle.yield_report.proofs.lines.whole_lines.Given as goal

-- the keeper was only read, and the lines are those of the orders so far, by the tables at the start
abbrev pub invariant-loop-order : goal.invariant-loop-order
invariant-loop-order g l =
    let k = g.K.Keep in
    record {
      read_only : Reads k.is_open k.is_honest k.may_leave k.tells_text k.tables k.commits l.fn.keep l.keep;
      stays_open : k.is_honest l.keep → k.is_open l.keep;
      began : k.is_open l.keep → k.is_open l.initial.keep;
      lines : k.is_open l.keep → AreLinesOf (has_issued_in (k.tables l.fn.keep)) (rows_of l.fn.customer (k.tables l.fn.keep).devices)
          (take l.order-index l.order-items) l.lines.items;
    }
