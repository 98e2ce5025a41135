-- The row is asked for, and the map is made of it.
use Rattle.std.proofs.Common.{option_and_then}
use Rattle.fusemap_core.specs.Prelude.{map_in}
use Rattle.office_tables.specs.Prelude.{map_at}
use Rattle.office_store.proofs.MadeAnswers.{asks_made}
use Rattle.office_store.proofs.maps.read_map.Goals as goal

pub returns : goal.returns
returns g c = asks_made g.S.Store c.args.conn.now c.map_row-row.new.conn (option_and_then (λ m.
    map_in m.body)) (map_at c.args.id)
    c.map_row-row.result c.described.result c.described.ensures c.map_row-row.ensures
