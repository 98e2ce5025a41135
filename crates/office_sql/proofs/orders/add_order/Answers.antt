use Rattle.std.proofs.Common.{◌≡◌, rules, Ok, ap, ◌∙◌}
use Rattle.sqlite.proofs.StateLemmas.{clean_if_open}
use Rattle.sqlite.specs.declared.types.Value.TheVariants.{Text}
use Rattle.sqlite.specs.Values.{bound_value, or_null}
use Rattle.office_sql.specs.Prelude.{SqlAdds, Wrote, text_value}
use Rattle.office_tables.specs.declared.rows.Write.TheVariants.{AddOrder as TheOrder}
use Rattle.office_sql.proofs.Inserting.{done, inserted}
use Rattle.office_sql.proofs.MapChanges.{changes_here, refused}
use Rattle.office_sql.proofs.Missing.{text_param}
use Rattle.office_sql.proofs.OrderTexts.{address_back, order_added, orders_validity, validity_insert, validity_casts}
use Rattle.office_sql.proofs.orders.add_order.Goals as goal

pub returns-in_err-execute-clause-changes : goal.returns-in_err-execute-clause-changes
returns-in_err-execute-clause-changes g c =
    let mid = c.insert_order.new.tx.conn.now in
    let new = c.execute.new.self.conn.now in
    changes_here g.S.Store c.args.tx.now.conn.now mid new c.in_ok-insert_order.field-0 _ _ (λ _ _ _. ⊥) _ c.in_ok-insert_order.ensures.changes
    (refused g.S.Store mid new _ _ c.execute.result _ c.from_residual-in_err-execute.result _ c.from_residual-in_err-execute.ensures.0
    c.execute.ensures.ended c.execute.ensures.runs c.execute.ensures.survives) (λ _ _ _ none. absurd none)

pub returns-clause-changes : goal.returns-clause-changes
returns-clause-changes g c =
    let order = c.args.order.now in
    let mid = c.insert_order.new.tx.conn.now in
    let new = c.execute.new.self.conn.now in
    let store = c.insert_order.new.tx.conn.now.store in
    let not_before : bound_value (or_null (λ s. Text s.now) c.not_before_text.result)
    ≡ text_value order.row.not_before = text_param _ _ ∙ ap text_value c.not_before_text.ensures in
    changes_here g.S.Store c.args.tx.now.conn.now mid new c.in_ok-insert_order.field-0 _ _ _ (λ x y _. Wrote (TheOrder order) x y)
    c.in_ok-insert_order.ensures.changes
    (done g.S.Store mid new c.in_ok-execute.field-0 tt
    (λ x y _. SqlAdds orders_validity.side (orders_validity.columns order) x y) (λ x y _. SqlAdds orders_validity.side (orders_validity.columns order) x y)
    (inserted g.S.Store validity_insert _ (orders_validity.columns order) (orders_validity.columns order) (search rules) (validity_casts order)
    mid new (Ok c.in_ok-execute.field-0)
    (λ up. (c.in_ok-insert_order.ensures.changes.answer (clean_if_open (g.S.Store.view store) (g.met.S.Store.shut_if_dirty store) up)).schema)
    c.in_ok-execute.ensures.ended c.in_ok-execute.ensures.runs c.in_ok-execute.ensures.survives) (λ x y adds. adds))
    (λ _ up adds side.
    order_added order
    (address_back _ order.row.mac c.in_ok-address.ensures.is c.in_ok-address.ensures.back) _ _ _
    (c.requires.office up) (c.requires.free up) adds side)
