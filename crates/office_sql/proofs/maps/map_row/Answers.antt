use Rattle.text_core.proofs.Kit.{rules}
use Rattle.office_tables.specs.Prelude.{has_id}
use Rattle.office_sql.proofs.MapTexts.{shown_map}
use Rattle.office_sql.proofs.Reading.{asks_first}
use Rattle.office_sql.proofs.maps.map_row.Goals as goal

pub returns : goal.returns
returns g c =
    asks_first g.S.Store c.args.conn.now c.id_rows.new.conn c.id_rows.result _ c.first_map.result shown_map
    (has_id c.args.id) (λ t. t.maps) c.id_rows.ensures c.first_map.ensures (λ t is. search rules) (search rules)
