use Rattle.text_core.proofs.Kit.{values_of, filter}
use Rattle.office_tables.specs.Prelude.{Visits}
use Rattle.memory_keeper.specs.Prelude.{is_between}
use Rattle.memory_keeper.proofs.table.Table.visit.Given as goal

-- a visit of what is left is one of all
abbrev pub invariant-loop-row : goal.invariant-loop-row
invariant-loop-row g l = (end : _) → Visits g.S.Sink.takes l.sink (values_of l.row-iterator) end
    → Visits g.S.Sink.takes l.fn.sink (filter (is_between g.R.Key.Ord.cmp g.R.Row.key_of l.fn.first l.fn.last) l.self) end
