use Rattle.std.proofs.Common.{rules}
use Rattle.office_sql.specs.Prelude.{order_columns}
use Rattle.office_sql.proofs.Inserting.{inserted}
use Rattle.office_sql.proofs.OrderTexts.{add_insert, add_casts}
use Rattle.office_sql.proofs.orders.insert_order.Goals as goal

pub returns-clause-changes : goal.returns-clause-changes
returns-clause-changes g c =
    let order = c.args.order.now in
    inserted g.S.Store add_insert _ (order_columns order) (order_columns order) (search rules)
    (add_casts order) c.args.tx.now.conn.now c.execute.new.self.conn.now c.execute.result c.requires.schema
    c.execute.ensures.ended c.execute.ensures.runs c.execute.ensures.survives
