use Rattle.std.proofs.Common.{◌≡◌, rules, Ok, sym, ap, ◌∙◌, option_and_then}
use Rattle.sqlite.proofs.StateLemmas.{clean_if_open}
use Rattle.sqlite.specs.declared.types.Value.TheVariants.{Text}
use Rattle.sqlite.specs.Values.{bound_value, or_null}
use Rattle.id_ranges.specs.Prelude.{mac_of_text}
use Rattle.office_tables.specs.declared.rows.Write.TheVariants.{AddGiven as TheGiven}
use Rattle.office_sql.specs.Prelude.{SqlAdds, Wrote, text_value}
use Rattle.office_sql.proofs.Inserting.{done, inserted}
use Rattle.office_sql.proofs.MapChanges.{changes_here, refused}
use Rattle.office_sql.proofs.Missing.{text_param}
use Rattle.office_sql.proofs.GivenTexts.{given_wrote, records_validity, validity_insert, validity_casts}
use Rattle.office_sql.proofs.given.insert_record.Goals as goal

pub returns-in_err-execute-clause-changes : goal.returns-in_err-execute-clause-changes
returns-in_err-execute-clause-changes g c =
    let mid = c.insert_given.new.tx.conn.now in
    let new = c.execute.new.self.conn.now in
    changes_here g.S.Store c.args.tx.now.conn.now mid new c.in_ok-insert_given.field-0 _ _ (λ _ _ _. ⊥) _ c.in_ok-insert_given.ensures.changes
    (refused g.S.Store mid new _ _ c.execute.result _ c.from_residual-in_err-execute.result _ c.from_residual-in_err-execute.ensures.0
    c.execute.ensures.ended c.execute.ensures.runs c.execute.ensures.survives) (λ _ _ _ none. absurd none)

pub returns-clause-changes : goal.returns-clause-changes
returns-clause-changes g c =
    let given = c.args.given.now in
    let mid = c.insert_given.new.tx.conn.now in
    let new = c.execute.new.self.conn.now in
    let store = c.insert_given.new.tx.conn.now.store in
    let back = sym (ap (option_and_then mac_of_text) c.requires.address_is) ∙ c.requires.address_back in
    let not_before : bound_value (or_null (λ s. Text s.now) c.not_before_text.result)
    ≡ text_value given.row.not_before = text_param _ _ ∙ ap text_value c.not_before_text.ensures in
    changes_here g.S.Store c.args.tx.now.conn.now mid new c.in_ok-insert_given.field-0 _ _ _ (λ x y _. Wrote (TheGiven given) x y)
    c.in_ok-insert_given.ensures.changes
    (done g.S.Store mid new c.in_ok-execute.field-0 tt
    (λ x y _. SqlAdds records_validity.side (records_validity.columns given) x y) (λ x y _. SqlAdds records_validity.side (records_validity.columns given) x y)
    (inserted g.S.Store validity_insert _ (records_validity.columns given) (records_validity.columns given) (search rules) (validity_casts given)
    mid new (Ok c.in_ok-execute.field-0)
    (λ up. (c.in_ok-insert_given.ensures.changes.answer (clean_if_open (g.S.Store.view store) (g.met.S.Store.shut_if_dirty store) up)).schema)
    c.in_ok-execute.ensures.ended c.in_ok-execute.ensures.runs c.in_ok-execute.ensures.survives) (λ x y adds. adds))
    (λ _ up adds side. given_wrote given back _ _ _ (c.requires.office up) (c.requires.free up) (c.requires.address_free up) adds side)
