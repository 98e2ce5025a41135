use Rattle.std.proofs.Common.{rules, ◌∷◌}
use Rattle.sqlite.specs.declared.types.Value.TheVariants.{Null}
use Rattle.office_tables.specs.Prelude.{is_seat}
use Rattle.office_sql.specs.Prelude.{seat_in_row}
use Rattle.office_sql.proofs.Reading.{asks_first}
use Rattle.office_sql.proofs.seats.seat_row.Goals as goal

pub returns : goal.returns
returns g c =
    asks_first g.S.Store c.args.conn.now c.seat_rows.new.conn c.seat_rows.result _ c.first_seat.result (λ r. seat_in_row (Null ∷ r))
    (is_seat c.args.name.now) (λ t. t.seats) c.seat_rows.ensures c.first_seat.ensures (λ t is. search rules) (search rules)
