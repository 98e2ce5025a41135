use Rattle.std.proofs.Common.{rules}
use Rattle.sqlite.specs.Held.{state}
use Rattle.office_sql.proofs.Inserting.{changes}
use Rattle.office_sql.proofs.OrderTexts.{set_values, cursor_set}
use Rattle.office_sql.proofs.orders.update_cursor.Goals as goal

pub returns-clause-changes : goal.returns-clause-changes
returns-clause-changes g c =
    let cursor = c.args.cursor.now in
    let old = c.args.tx.now.conn.now in
    let new = c.execute.new.self.conn.now in
    changes g.S.Store _ _ (set_values cursor) (search rules) old new c.execute.result _ c.requires.office
    (λ count up office ran.
    cursor_set cursor (state g.S.Store old) (state g.S.Store new) count office ran)
    c.execute.ensures.ended c.execute.ensures.runs c.execute.ensures.survives
