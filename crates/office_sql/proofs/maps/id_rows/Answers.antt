use Rattle.std.proofs.Common.{rules, pos, [], ◌∷◌}
use Rattle.sqlite.specs.declared.types.Value.TheVariants.{Int}
use Rattle.office_sql.specs.Prelude.{maps}
use Rattle.office_sql.proofs.Reading.{asked}
use Rattle.office_sql.proofs.MapTexts.{one_read, one_shown}
use Rattle.office_sql.proofs.maps.id_rows.Goals as goal

pub returns : goal.returns
returns g c =
    let id = c.args.id in
    asked g.S.Store one_read _ (Int (pos id)
    ∷ []) (search rules) c.args.conn.now c.query_all.new.self c.query_all.result _ c.requires
    (λ rows office s. one_shown id _ rows.items (office.rows maps) s)
    c.query_all.ensures.ok c.query_all.ensures.err c.query_all.ensures.mode c.query_all.ensures.survives
