use Rattle.std.proofs.Common.{◌≡◌, List, [], false}
use Rattle.office_sql.proofs.Kit.{Row, HasCleanDisk, IsUnchanged, Survives, state, HasGiven}
use Rattle.store_inspection.proofs.AddressWalk.{GoesOn}
use Rattle.store_inspection.proofs.addresses.has_no_repeat.Given as goal

-- the query has given rows, and what comes is asked after the last of them
abbrev pub invariant-rows : goal.invariant-rows
invariant-rows g l =
    let old = state g.S.Store l.fn.conn in
    let now = state g.S.Store l.rows.conn.now in
    (l.rows.conn.ghost_name ≡ l.initial.rows.conn.ghost_name)
    × (l.fn.conn.in_transaction ≡ false → l.rows.conn.now.in_transaction ≡ false)
    × Survives old now (λ _. ⊥)
    × (HasCleanDisk now → IsUnchanged old now × (given : List Row) × HasGiven g.S.Store l.sql [] l.rows.conn.now given × GoesOn given l.last)
