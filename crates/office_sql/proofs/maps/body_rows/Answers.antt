use Rattle.std.proofs.Common.{rules, [], ◌∷◌}
use Rattle.sqlite.specs.declared.types.Value.TheVariants.{Text}
use Rattle.office_sql.specs.Prelude.{maps}
use Rattle.office_sql.proofs.Reading.{asked}
use Rattle.office_sql.proofs.MapTexts.{body_read, body_shown}
use Rattle.office_sql.proofs.maps.body_rows.Goals as goal

pub returns : goal.returns
returns g c =
    let body = c.args.body.now in
    asked g.S.Store body_read _ (Text body
    ∷ []) (search rules) c.args.conn.now c.query_all.new.self c.query_all.result _ c.requires
    (λ rows office s. body_shown body _ rows.items (office.rows maps) s)
    c.query_all.ensures.ok c.query_all.ensures.err c.query_all.ensures.mode c.query_all.ensures.survives
