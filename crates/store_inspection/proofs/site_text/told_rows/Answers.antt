use Rattle.sqlite.proofs.StateLemmas.{clean_if_open}
use Rattle.store_inspection.specs.Prelude.{IsFound}
use Rattle.store_inspection.proofs.FoundAsked.{still_so, tests_then}
use Rattle.store_inspection.specs.declared.version.Version.TheVariants.{V3}
use Rattle.store_inspection.proofs.site_text.told_rows.Goals as goal

pub meta_row-requires : goal.meta_row-requires
meta_row-requires g c = (V3, c.requires)

pub text_rows-requires : goal.text_rows-requires
text_rows-requires g c up =
    let store = c.meta_row.new.conn.store in
    let same = c.in_ok-meta.ensures.same (clean_if_open (g.S.Store.view store) (g.met.S.Store.shut_if_dirty store) up) in
    still_so (IsFound V3) same (c.requires same.0.was_open)

pub returns : goal.returns
returns g c =
    tests_then g.S.Store c.args.conn.now c.meta_row.new.conn c.text_rows.new.conn c.in_ok-meta.meta _ _ _ _ _ c.in_ok-meta.ensures c.in_ok-rows.ensures
    (λ meta rows. (meta, rows))
    (λ same. same)
