use Rattle.std.proofs.Common.{rules, [], ◌∷◌}
use Rattle.sqlite.specs.declared.types.Value.TheVariants.{Text}
use Rattle.office_sql.specs.Prelude.{seats}
use Rattle.office_sql.proofs.Reading.{asked}
use Rattle.office_sql.proofs.SeatTexts.{one_read, one_shown}
use Rattle.office_sql.proofs.seats.seat_rows.Goals as goal

pub returns : goal.returns
returns g c =
    let name = c.args.name.now in
    asked g.S.Store one_read _ (Text name
    ∷ []) (search rules) c.args.conn.now c.query_all.new.self c.query_all.result _ c.requires
    (λ rows office s. one_shown name _ rows.items (office.rows seats) s)
    c.query_all.ensures.ok c.query_all.ensures.err c.query_all.ensures.mode c.query_all.ensures.survives
