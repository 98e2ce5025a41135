use Rattle.sqlite.proofs.StateLemmas.{clean_if_open}
use Rattle.office_tables.specs.declared.rows.Write.TheVariants.{AddMap as TheMap}
use Rattle.office_sql.specs.Prelude.{Wrote}
use Rattle.office_sql.proofs.MapChanges.{changes_then}
use Rattle.office_sql.proofs.MapTexts.{link_free, map_wrote}
use Rattle.office_sql.proofs.maps.add_map.Goals as goal

pub add_link-requires-clause-office : goal.add_link-requires-clause-office
add_link-requires-clause-office g c up =
    let store = c.new_map.new.tx.conn.now.store in
    (c.in_ok-id.ensures.changes.answer (clean_if_open (g.S.Store.view store) (g.met.S.Store.shut_if_dirty store) up)).office

pub add_link-requires-clause-free : goal.add_link-requires-clause-free
add_link-requires-clause-free g c up =
    let store = c.new_map.new.tx.conn.now.store in
    let clean = clean_if_open (g.S.Store.view store) (g.met.S.Store.shut_if_dirty store) up in
    link_free c.args.map.now c.in_ok-id.id _ _ (c.requires.free (c.in_ok-id.ensures.changes.inside clean).was_open) (c.in_ok-id.ensures.changes.answer clean)

pub returns-clause-changes : goal.returns-clause-changes
returns-clause-changes g c =
    changes_then g.S.Store c.args.tx.now.conn.now c.new_map.new.tx.conn.now
    c.add_link.new.tx.conn.now c.in_ok-id.id c.add_link.result _ _ (λ x y _.
    Wrote (TheMap c.args.map.now) x y) c.in_ok-id.ensures.changes c.add_link.ensures.changes
    (λ x y z _ gains wrote. map_wrote c.args.map.now c.in_ok-id.id x y z gains wrote)
