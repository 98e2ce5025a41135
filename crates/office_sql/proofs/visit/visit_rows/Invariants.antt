use Rattle.std.proofs.Common.{◌≡◌, ◌++◌, List, map, false}
use Rattle.office_sql.proofs.Kit.{Row, HasCleanDisk, IsUnchanged, Survives, state, HasGiven, bound}
use Rattle.office_tables.specs.Prelude.{Visits}
use Rattle.office_sql.proofs.visit.visit_rows.Given as goal

-- the query has given rows, and a visit of more rows is one of these and more
abbrev pub invariant-rows : goal.invariant-rows
invariant-rows g l =
    let old = state g.S.Store l.fn.conn in
    let now = state g.S.Store l.rows.conn.now in
    (l.rows.conn.ghost_name ≡ l.initial.rows.conn.ghost_name)
    × (l.fn.conn.in_transaction ≡ false → l.rows.conn.now.in_transaction ≡ false)
    × Survives old now (λ _. ⊥)
    × (HasCleanDisk now → IsUnchanged old now × (given : List Row) × HasGiven g.S.Store l.sql (bound l.params) l.rows.conn.now given
    × ((more : List Row) (end : _) → Visits g.K.Sink.takes l.sink (map g.R.ReadRow.reads more) end
    → Visits g.K.Sink.takes l.fn.sink (map g.R.ReadRow.reads (given ++ more)) end))
