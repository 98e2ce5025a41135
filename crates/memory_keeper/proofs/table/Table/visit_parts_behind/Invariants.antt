use Rattle.text_core.proofs.Kit.{values_of, filter, map}
use Rattle.office_tables.specs.Prelude.{Visits}
use Rattle.memory_keeper.specs.Prelude.{is_behind}
use Rattle.memory_keeper.proofs.table.Table.visit_parts_behind.Given as goal

-- a visit of the parts of what is left is one of the parts of all
abbrev pub invariant-loop-found : goal.invariant-loop-found
invariant-loop-found g l = (end : _) → Visits g.S.Sink.takes l.sink (map g.P.PartOf.part (values_of l.found-iterator)) end
    → Visits g.S.Sink.takes l.fn.sink (map g.P.PartOf.part (filter (is_behind g.R.Key.Ord.cmp g.R.Row.key_of l.fn.first l.fn.last) l.self)) end
