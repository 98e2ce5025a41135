-- What a statement in a transaction keeps.
use Rattle.std.proofs.Common.{◌≡◌, ℕ, List, refl, sym, subst, inl, inr, Ok, Err, Result, false, IsTrue}
use Rattle.office_sql.proofs.Kit.{Row, Error, State, ExecutesInside, KeepsCommit, IsUnchanged, IsRolledBack, Held, state}
use Rattle.sqlite.specs.Store.{Ghosts}
use Rattle.std.proofs.lemmas.Bool.{cases_Bool}

unchanged_keeps : (old new : State) → IsUnchanged old new → KeepsCommit old new
unchanged_keeps old new h = record { was_open = λ _. h.0.was_open; committed = λ _. h.0.committed_is }

undone_keeps : (old new : State) → IsRolledBack old new → KeepsCommit old new
undone_keeps old new h = record { was_open = h.was_open; committed = λ o. (h.undone o).1 }

pub inside_keeps : (held : ℕ) (sql : List ℕ) (params : Row) (old new : State) (r : Result ℕ Error)
    → ExecutesInside held sql params old new r → KeepsCommit old new
inside_keeps held sql params old new (Ok count) h = record { was_open = λ _. h.1.was_open; committed = λ _. h.1.committed_is }
inside_keeps held sql params old new (Err e) (inl (_, inl h)) = unchanged_keeps old new h
inside_keeps held sql params old new (Err e) (inl (_, inr h)) = undone_keeps old new h
inside_keeps held sql params old new (Err e) (inr h) = unchanged_keeps old new h.2

pub kept : {S : Type 0} (g : Ghosts S) (old new : Held S) (sql : List ℕ) (params : Row)
    (r : Result ℕ Error) (X : Type 0) → (old.in_transaction ≡ false → X × (new ≡ old))
    → (IsTrue old.in_transaction → ExecutesInside 0 sql params (state g old) (state g new) r) → KeepsCommit (state g old) (state g new)
kept g old new sql params r X ended runs = elim (cases_Bool old.in_transaction) [
  | inl was ↦ inside_keeps 0 sql params (state g old) (state g new) r (runs (rw was))
  | inr was ↦ subst (λ h. KeepsCommit (state g old) (state g h)) (sym (ended was).1) (record { was_open = λ o. o; committed = λ _. refl })
]
