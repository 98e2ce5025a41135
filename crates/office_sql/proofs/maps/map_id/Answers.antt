use Rattle.text_core.proofs.Kit.{rules, ap, ◌∙◌, option_map, IfOk-weaker}
use Rattle.office_tables.specs.declared.rows.MapRow.{MapRow}
use Rattle.office_tables.specs.Prelude.{has_body}
use Rattle.office_sql.proofs.Kept.{found}
use Rattle.office_sql.proofs.MapTexts.{shown_map, id_shown}
use Rattle.office_sql.proofs.Reading.{asks_more}
use Rattle.office_sql.proofs.maps.map_id.Goals as goal

pub returns : goal.returns
returns g c =
    asks_more g.S.Store c.args.conn.now c.body_rows.new.conn c.body_rows.result c.first_id.result _ _ c.body_rows.ensures
    (λ t is. IfOk-weaker c.first_id.result _ _ (λ id e. e ∙ id_shown _
    ∙ ap (option_map (λ (m : MapRow).
    m.id)) (found shown_map (has_body c.args.body.now) t.maps _ (search rules)))
    c.first_id.ensures)
    (search rules)
