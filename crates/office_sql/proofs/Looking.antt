-- From what `query_all` promises in a transaction to what the functions of this crate do.
use Rattle.std.proofs.Common.{◌≡◌, ◌⊎◌}
use Rattle.text_core.proofs.Kit.{ℕ, List, [], inl, inr, subst, Result, Ok, Err, IfOk, IfErr, Vec, Global, IfOk-weaker}
use Rattle.office_sql.proofs.Kit.{Row, overlay, IsAnswer, Error, Held, state, HasCleanDisk, Survives, IsUnchanged, IsTooLate, KeepsCommit}
use Rattle.sqlite.specs.Store.{Ghosts}
use Rattle.sqlite.specs.State.{Shown, FailsToQuery}
use Rattle.office_tables.specs.Prelude.{Tables}
use Rattle.office_sql.specs.Prelude.{office_schema, HasOffice, Looks, SqlUnchanged, IsOffice, tables_in}
use Rattle.office_sql.proofs.Asked.{leaves, shown_open, shown_rests, failed_rests}
use Rattle.office_sql.proofs.Resting.{rests_keeps}
use Rattle.sqlite.specs.Query.{Query}
use Rattle.office_sql.proofs.LedgerAsked.{IsReadAs, shows_as}

module _ {S : Type 0} (g : Ghosts S) (text : List ℕ) (body : Query)
    (read : IsReadAs office_schema text body) (params values : Row) (bound : params ≡ values) (old new : Held S) where
  -- a call of `query_all` in a transaction on the office's tables asks what its text means
  pub looked : (r : Result (Vec Row Global) Error) (Says : Tables → Vec Row Global → Type 0)
      → HasOffice (state g old)
      → ((rows : Vec Row Global) → IsOffice (state g old).now
      → IsAnswer body (overlay (state g old).now.trees []) values rows.items → Says (tables_in (state g old).now.trees) rows)
      → (HasCleanDisk (state g new) → IfOk r (λ v. Shown text params (state g old) (state g new) v.items))
      → (HasCleanDisk (state g new)
      → IfErr r (λ e.
      FailsToQuery text params (state g old) (state g new) e ⊎ IsTooLate text params
      (state g old) (state g new) e))
      → Survives (state g old) (state g new) (λ _. ⊥) → Looks g old new r Says
  looked r Says has answer ok err survives = record {
    answer = λ clean. IfOk-weaker r _ _ (λ rows h.
        let office = has (shown_open text params (state g old) (state g new) rows.items read.bare h) in
        answer rows office (subst (λ p. IsAnswer body (overlay (state g old).now.trees []) p rows.items) bound
        (shows_as text body read params (state g old) (state g new) office.schema rows.items h))) (ok clean);
    stands = λ clean. IfOk-weaker r _ _ (λ rows h.
        let office = has (shown_open text params (state g old) (state g new) rows.items read.bare h) in
        stands (leaves office_schema text params (state g old) (state g new) read.plain office.schema rows.items h)) (ok clean);
    kept = λ clean. keeps r (ok clean) (err clean);
    crash = survives;
  }
    where
      stands : IsUnchanged (state g old) (state g new) → SqlUnchanged (state g old) (state g new)
      stands h = record { was_open = λ _. h.0.was_open; now = h.0.now_is; committed = h.0.committed_is; mode = h.0.mode }

      keeps : (r : Result (Vec Row Global) Error) → IfOk r (λ v. Shown text params (state g old) (state g new) v.items)
          → IfErr r (λ e.
          FailsToQuery text params (state g old) (state g new) e ⊎ IsTooLate text params
          (state g old) (state g new) e) → KeepsCommit (state g old) (state g new)
      keeps (Ok v) shown failed = rests_keeps (state g old) (state g new) (shown_rests text params (state g old) (state g new) v.items read.bare shown)
      keeps (Err e) shown (inl failed) = rests_keeps (state g old) (state g new) (failed_rests text params (state g old) (state g new) e read.bare failed)
      keeps (Err e) shown (inr late) = record { was_open = λ _. late.5.0.was_open; committed = λ _. late.5.0.committed_is }

-- an answer that is made of another's
pub looks_more : {S A B E : Type 0} (g : Ghosts S) (old new : Held S) (a : A) (b : B) (P : Tables → A → Type 0) (Q : Tables → B → Type 0)
    → Looks {E = E} g old new (Ok a) P → ((t : Tables) → P t a → Q t b) → Looks {E = E} g old new (Ok b) Q
looks_more g old new a b P Q it answer = record { answer = λ clean. answer _ (it.answer clean); stands = it.stands; kept = it.kept; crash = it.crash }
