use Rattle.std.proofs.Common.{◌≡◌, rules, ap, ◌∙◌, string_bytes}
use Rattle.sqlite.specs.declared.types.Value.TheVariants.{Text}
use Rattle.sqlite.specs.Values.{bound_value, or_null}
use Rattle.office_sql.specs.Prelude.{given_columns, text_value, mac_value}
use Rattle.office_sql.proofs.GivenTexts.{add_insert, add_casts}
use Rattle.office_sql.proofs.Inserting.{inserted}
use Rattle.office_sql.proofs.Missing.{text_param}
use Rattle.office_sql.proofs.given.insert_given.Goals as goal

pub returns-clause-changes : goal.returns-clause-changes
returns-clause-changes g c =
    let given = c.args.given.now in
    let chip : bound_value (or_null (λ s. Text s.now) c.chip_text.result) ≡ text_value given.row.chip = text_param _ _ ∙ ap text_value c.chip_text.ensures in
    let mac : bound_value (or_null (λ s. Text (string_bytes s)) c.args.address.now)
    ≡ mac_value given.row.mac = text_param _ _ ∙ ap text_value c.requires.address_is in
    inserted g.S.Store add_insert _ (given_columns given) (given_columns given) (search rules)
    (add_casts given) c.args.tx.now.conn.now c.execute.new.self.conn.now c.execute.result c.requires.schema
    c.execute.ensures.ended c.execute.ensures.runs c.execute.ensures.survives
