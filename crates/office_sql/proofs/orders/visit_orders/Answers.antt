use Rattle.std.proofs.Common.{rules, [], ◌∷◌, filter}
use Rattle.sqlite.specs.declared.types.Value.TheVariants.{Text}
use Rattle.office_sql.proofs.Kit.{state}
use Rattle.office_tables.specs.Prelude.{is_of}
use Rattle.office_sql.specs.Prelude.{joined_order}
use Rattle.office_sql.proofs.OrderTexts.{own_read, own_shown}
use Rattle.office_sql.proofs.Visiting.{bare_returns, visits_as}
use Rattle.office_sql.proofs.orders.visit_orders.Goals as goal

pub visit_rows-requires : goal.visit_rows-requires
visit_rows-requires g c = bare_returns _ own_read.bare c.args.conn.now.schema

pub returns : goal.returns
returns g c =
    let customer = c.args.customer.now in
    visits_as g.S.Store _ _ own_read _ (Text customer
    ∷ []) (search rules) c.args.conn.now c.visit_rows.new.conn
    g.K.Sink.takes joined_order c.visit_rows.result c.args.sink.now c.visit_rows.new.sink (λ t. filter (is_of customer) t.orders) c.requires
    (λ rows office a. own_shown customer (state g.S.Store c.args.conn.now).now office rows a)
    c.visit_rows.ensures.visited c.visit_rows.ensures.same c.visit_rows.ensures.rests c.visit_rows.ensures.mode c.visit_rows.ensures.crash
