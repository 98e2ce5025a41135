use Rattle.std.proofs.Common.{◌≡◌, ◌∷◌}
use Rattle.text_core.proofs.Kit.{◌∙◌, sym, rules, ℕ, pos, Ok, w64, to_z-of_z, IfOk-weaker}
use Rattle.office_sql.proofs.Kit.{Null, Database, state}
use Rattle.office_sql.specs.Prelude.{maps, map_columns, GainsMap}
use Rattle.office_sql.proofs.Inserting.{adds, changes}
use Rattle.office_sql.proofs.MapChanges.{answered, refused}
use Rattle.office_sql.proofs.MapIds.{last_is_next}
use Rattle.office_sql.proofs.MapTexts.{add_terms, add_insert, add_casts, map_gained}
use Rattle.office_sql.proofs.maps.new_map.Goals as goal

pub returns-in_err-execute-clause-changes : goal.returns-in_err-execute-clause-changes
returns-in_err-execute-clause-changes g c =
    refused g.S.Store c.args.tx.now.conn.now c.execute.new.self.conn.now _ _ c.execute.result _
    c.from_residual.result _ c.from_residual.ensures.0 c.execute.ensures.ended
    c.execute.ensures.runs c.execute.ensures.survives

pub returns-clause-changes : goal.returns-clause-changes
returns-clause-changes g c =
    let m = c.args.map.now in
    let old = c.args.tx.now.conn.now in
    let new = c.execute.new.self.conn.now in
    let Gains = λ (x y : Database) (_ : ℕ). (id : ℕ) → (state g.S.Store new).last_rowid ≡ pos id → GainsMap m id x y in
    let back = to_z-of_z w64 c.last_insert_rowid.result (record { sfits = c.last_insert_rowid.type_inv }) in
    answered g.S.Store old new c.in_ok-execute.field-0 c.number_of.result Gains _
    (changes g.S.Store _ _ (map_columns m) (search rules) old new (Ok c.in_ok-execute.field-0) Gains c.requires
    (λ count up office ran id is.
    let last = last_is_next _ maps add_terms 4 add_insert (map_columns m) (Null
    ∷ map_columns m) (add_casts m) (state g.S.Store old) (state g.S.Store new)
    count office.schema ran in
    let row = adds _ maps add_terms 4 add_insert (map_columns m) (Null
    ∷ map_columns m) (add_casts m) (state g.S.Store old) (state g.S.Store new)
    count office.schema ran in
    map_gained m id _ _ office (sym last ∙ is) row)
    c.in_ok-execute.ensures.ended c.in_ok-execute.ensures.runs c.in_ok-execute.ensures.survives)
    (λ x y gains. IfOk-weaker c.number_of.result _ _ (λ id is. gains id (sym c.last_insert_rowid.ensures ∙ sym back ∙ is)) c.number_of.ensures)
