use Rattle.std.proofs.Common.{rules}
use Rattle.sqlite.specs.Held.{state}
use Rattle.office_sql.specs.Prelude.{seat_columns}
use Rattle.office_sql.proofs.Inserting.{changes}
use Rattle.office_sql.proofs.SeatTexts.{seat_set}
use Rattle.office_sql.proofs.seats.set_seat.Goals as goal

pub returns-clause-changes : goal.returns-clause-changes
returns-clause-changes g c =
    let seat = c.args.seat.now in
    let old = c.args.tx.now.conn.now in
    let new = c.execute.new.self.conn.now in
    changes g.S.Store _ _ (seat_columns seat) (search rules) old new c.execute.result _ c.requires.office
    (λ count up office ran.
    seat_set seat (state g.S.Store old) (state g.S.Store new) count office ran)
    c.execute.ensures.ended c.execute.ensures.runs c.execute.ensures.survives
