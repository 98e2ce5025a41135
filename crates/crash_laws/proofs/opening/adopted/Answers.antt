use Rattle.std.proofs.Common.{ap, ◌∙◌}
use Rattle.office_sql.specs.Prelude.{tables_in}
use Rattle.crash_laws.proofs.opening.adopted.Goals as goal

-- what was committed may be left, and is shown
pub returns-in-Ok-clause-tables : goal.returns-in-Ok-clause-tables
returns-in-Ok-clause-tables g c = λ clean.
    let it = c.in-Ok.ensures.opened in
    let store = c.in-Ok.keep.conn.store in
    ap tables_in (it.left clean (g.S.Store.view store).committed (g.met.S.Store.stays store (it.is_open clean))) ∙ (it.shows clean).taken.tables

-- an open store leaves what was committed last
pub returns-in-Ok-clause-only_committed : goal.returns-in-Ok-clause-only_committed
returns-in-Ok-clause-only_committed g c = λ clean left may. may.2
    ∙ ap tables_in
    (g.met.S.Store.settled c.in-Ok.keep.conn.store may.0 (c.in-Ok.ensures.opened.is_open clean) may.1)
