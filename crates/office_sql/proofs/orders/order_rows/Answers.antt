use Rattle.std.proofs.Common.{rules, [], ◌∷◌}
use Rattle.sqlite.specs.declared.types.Value.TheVariants.{Text}
use Rattle.office_sql.proofs.Kit.{state}
use Rattle.office_sql.proofs.LedgerAsked.{asked_as}
use Rattle.office_sql.proofs.OrderTexts.{one_read, one_shown}
use Rattle.office_sql.proofs.orders.order_rows.Goals as goal

pub returns : goal.returns
returns g c =
    let customer = c.args.customer.now in
    let name = c.args.name.now in
    asked_as g.S.Store _ _ one_read _ (Text customer ∷ Text name ∷ []) (search rules)
    c.args.conn.now c.query_all.new.self c.query_all.result _ c.requires
    (λ rows office a. one_shown customer name (state g.S.Store c.args.conn.now).now office rows.items a)
    c.query_all.ensures.ok c.query_all.ensures.err c.query_all.ensures.mode c.query_all.ensures.survives
