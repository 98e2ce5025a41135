use Rattle.std.proofs.Common.{◌≡◌}
use Rattle.sqlite.specs.Held.{state}
use Rattle.office_sql.specs.Prelude.{office_schema}
use Rattle.store_inspection.proofs.FoundAsked.{read_under, tested}
use Rattle.store_inspection.proofs.TextShows.{body_read, shows_site_texts}
use Rattle.store_inspection.proofs.site_text.text_rows.Goals as goal

pub returns : goal.returns
returns g c =
    tested g.S.Store _ _ body_read.bare (λ schema. schema ≡ office_schema) (read_under _ _ office_schema body_read)
    c.args.conn.now c.query_all.new.self c.query_all.result _
    (λ up. (c.requires up).schema)
    (λ rows up a. shows_site_texts (state g.S.Store c.args.conn.now).now.trees rows.items a)
    c.query_all.ensures.ok c.query_all.ensures.err c.query_all.ensures.mode c.query_all.ensures.survives
