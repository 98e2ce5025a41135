use Rattle.text_core.proofs.Kit.{rules}
use Rattle.office_tables.specs.Prelude.{is_order}
use Rattle.office_sql.specs.Prelude.{joined_order}
use Rattle.office_sql.proofs.Reading.{asks_first}
use Rattle.office_sql.proofs.orders.order_row.Goals as goal

pub returns : goal.returns
returns g c =
    asks_first g.S.Store c.args.conn.now c.order_rows.new.conn c.order_rows.result _ c.first_row.result joined_order
    (is_order c.args.customer.now c.args.name.now) (λ t. t.orders) c.order_rows.ensures c.first_row.ensures (λ t is. search rules) (search rules)
