use Rattle.std.proofs.Common.{rules, ℕ, ◌==◌, Ok, subst, MatchBool}
use Rattle.office_tables.specs.declared.rows.Write.TheVariants.{PutSeat}
use Rattle.office_sql.proofs.Kit.{state, clean_if_open, Database}
use Rattle.office_sql.specs.Prelude.{LacksSeat, Wrote}
use Rattle.office_sql.proofs.MapChanges.{answered, changes_then}
use Rattle.office_sql.proofs.SeatTexts.{seat_put}
use Rattle.office_sql.proofs.seats.put_seat.Goals as goal

pub new_seat-requires-clause-office : goal.new_seat-requires-clause-office
new_seat-requires-clause-office g c up =
    let store = c.set_seat.new.tx.conn.now.store in
    let clean = clean_if_open (g.S.Store.view store) (g.met.S.Store.shut_if_dirty store) up in
    let said = c.in_ok-count.ensures.changes.answer clean in
    let h : LacksSeat c.args.seat.now.row.name (state g.S.Store c.args.tx.now.conn.now).now (state g.S.Store c.set_seat.new.tx.conn.now).now = search rules in
    h.office

pub new_seat-requires-clause-free : goal.new_seat-requires-clause-free
new_seat-requires-clause-free g c up =
    let store = c.set_seat.new.tx.conn.now.store in
    let clean = clean_if_open (g.S.Store.view store) (g.met.S.Store.shut_if_dirty store) up in
    let said = c.in_ok-count.ensures.changes.answer clean in
    let h : LacksSeat c.args.seat.now.row.name (state g.S.Store c.args.tx.now.conn.now).now (state g.S.Store c.set_seat.new.tx.conn.now).now = search rules in
    h.lacks

pub returns-in_ok-new_seat-clause-changes : goal.returns-in_ok-new_seat-clause-changes
returns-in_ok-new_seat-clause-changes g c =
    let Says : Database → Database → ℕ → Type 0 = λ x y _. Wrote (PutSeat c.args.seat.now) x y in
    answered g.S.Store c.args.tx.now.conn.now c.new_seat.new.tx.conn.now c.in_ok-new_seat.field-0 _ Says (λ x y _. Wrote (PutSeat c.args.seat.now) x y)
    (changes_then g.S.Store c.args.tx.now.conn.now c.set_seat.new.tx.conn.now c.new_seat.new.tx.conn.now c.in_ok-count.count
    (Ok c.in_ok-new_seat.field-0) _ Says Says c.in_ok-count.ensures.changes c.in_ok-new_seat.ensures.changes
    (λ x y z _ found wrote. seat_put c.args.seat.now x y z (subst (λ n.
    MatchBool (n == 0) (LacksSeat c.args.seat.now.row.name x y) (Wrote (PutSeat c.args.seat.now) x y)) c.if-count-eq0.true found) wrote))
    (λ x y wrote. wrote)
