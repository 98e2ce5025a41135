use Rattle.std.proofs.Common.{rules}
use Rattle.office_sql.specs.Prelude.{seat_columns}
use Rattle.office_sql.proofs.Inserting.{inserts}
use Rattle.office_sql.proofs.SeatTexts.{add_insert, add_casts, seat_added}
use Rattle.office_sql.proofs.seats.new_seat.Goals as goal

pub returns-clause-changes : goal.returns-clause-changes
returns-clause-changes g c =
    let seat = c.args.seat.now in
    inserts g.S.Store add_insert _ (seat_columns seat)
    (seat_columns seat) (search rules) (add_casts seat) c.args.tx.now.conn.now
    c.execute.new.self.conn.now c.execute.result _ c.requires.office
    (λ count up office adds. seat_added seat _ _ office (c.requires.free up) adds) c.execute.ensures.ended c.execute.ensures.runs c.execute.ensures.survives
