use Rattle.std.proofs.Common.{◌≡◌, take}
use Rattle.office_sql.proofs.Kit.{HasCleanDisk, Survives, state}
use Rattle.office_sql.specs.Prelude.{HasMade}
use Rattle.office_sql.proofs.write.write_all.Given as goal

abbrev pub invariant-loop-write : goal.invariant-loop-write
invariant-loop-write g l =
    let old = state g.S.Store l.fn.conn in
    let now = state g.S.Store l.tx.conn.now in
    (l.tx.conn.ghost_name ≡ l.initial.tx.conn.ghost_name) × Survives old now (λ _. ⊥) × (HasCleanDisk now → HasMade (take l.write-index l.writes) old now)
