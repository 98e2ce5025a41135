use Rattle.sqlite.specs.Held.{state}
use Rattle.store_inspection.proofs.FoundAsked.{of_a_version, tested}
use Rattle.store_inspection.proofs.MetaShows.{row_read, shows_meta}
use Rattle.store_inspection.specs.declared.version.Version.TheVariants.{V1}
use Rattle.store_inspection.proofs.meta.meta_rows.Goals as goal

pub returns : goal.returns
returns g c =
    tested g.S.Store _ _ (row_read V1).bare _
    (of_a_version _ _ row_read)
    c.args.conn.now c.query_all.new.self c.query_all.result _
    (λ up. (c.requires.0, (c.requires.1 up).schema))
    (λ rows up a. shows_meta c.requires.0 (state g.S.Store c.args.conn.now).now rows.items (c.requires.1 up) a)
    c.query_all.ensures.ok c.query_all.ensures.err c.query_all.ensures.mode c.query_all.ensures.survives
