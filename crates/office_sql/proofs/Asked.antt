-- What follows from a query of the office.
use Rattle.std.proofs.Common.{◌≡◌, ℕ, List, sym, ap, subst, ◌∙◌, arith, IsTrue, inl, inr, Result, Ok, Err, IfOk, IfErr, Vec}
use Rattle.office_sql.proofs.Kit.{Row, Schema, State, HasCleanDisk, Survives, ShowsRows}
use Rattle.office_sql.proofs.Kit.{IsUnchanged, IsRolledBack, FailsToShow, IsPlain, Error}
use Rattle.sqlite.specs.Listing.{understood}
use Rattle.sqlite.specs.Clock.{timed}
use Rattle.sqlite.specs.State.{Shown, IsNotRun, FailsToQuery}
use Rattle.office_sql.proofs.Bare.{IsBare, bare_understood}
use Rattle.std.specs.declared.alloc.Global.{Global}
use Rattle.office_sql.specs.Prelude.{Rests}

pub was_clean : (old new : State) (P : _) → Survives old new P → HasCleanDisk new → HasCleanDisk old
was_clean old new P s clean = omega (arith, s.clean)

module _ (schema : Schema) (sql : List ℕ) (params : Row) (old new : State) (plain : IsPlain (understood schema sql)) where
  pub leaves : old.now.schema ≡ schema → (rows : List Row) → Shown sql params old new rows → IsUnchanged old new
  unfolding Shown
  leaves has rows h =
      let none = (subst IsPlain (sym (ap (λ o. understood o sql) has) ∙ h.1.is) plain).0 in
      (subst (ShowsRows old new sql h.0 (timed params h.0.formats h.1.now) rows) none h.2).3

-- a query that was answered found the store open
pub shown_open : (sql : List ℕ) (params : Row) (old new : State) (rows : List Row) → IsBare sql → Shown sql params old new rows → IsTrue old.is_open
unfolding Shown
shown_open sql params old new rows is h =
    (subst (ShowsRows old new sql h.0 (timed params h.0.formats h.1.now) rows) (bare_understood sql is old.now.schema h.0 h.1.is) h.2).3.0.was_open

pub unchanged_rests : (old new : State) → IsUnchanged old new → Rests old new
unchanged_rests old new h = record { was_open = λ _. h.0.was_open; now = λ _. inl h.0.now_is; committed = λ _. h.0.committed_is }

pub undone_rests : (old new : State) → IsRolledBack old new → Rests old new
undone_rests old new h = record { was_open = h.was_open; now = λ up. inr (h.undone up).0; committed = λ up. (h.undone up).1 }

pub shown_rests : (sql : List ℕ) (params : Row) (old new : State) (rows : List Row) → IsBare sql → Shown sql params old new rows → Rests old new
unfolding Shown
shown_rests sql params old new rows is h =
    unchanged_rests old new (subst (ShowsRows old new sql h.0 (timed params h.0.formats h.1.now) rows) (bare_understood sql is old.now.schema h.0 h.1.is) h.2).3

pub failed_rests : (sql : List ℕ) (params : Row) (old new : State) (e : Error) → IsBare sql → FailsToQuery sql params old new e → Rests old new
unfolding FailsToQuery IsNotRun
failed_rests sql params old new e is (inl (inl h)) = unchanged_rests old new h.1
failed_rests sql params old new e is (inl (inr h)) = undone_rests old new h.3
failed_rests sql params old new e is (inr h) =
    unchanged_rests old new (subst (FailsToShow old new sql h.0 (timed params h.0.formats h.1.now) e) (bare_understood sql is old.now.schema h.0 h.1.is) h.2).3

-- a text that wasn't run changes nothing, or the transaction is undone
pub not_run_rests : (sql : List ℕ) (params : Row) (old new : State) (e : Error) → IsNotRun old new sql params e → Rests old new
unfolding IsNotRun
not_run_rests sql params old new e (inl h) = unchanged_rests old new h.1
not_run_rests sql params old new e (inr h) = undone_rests old new h.3

pub query_rests : {X : Type 0} (sql : List ℕ) (params : Row) (old new : State)
    (r : Result (Vec X Global) Error) (rows : Vec X Global → List Row) → IsBare sql
    → IfOk r (λ v. Shown sql params old new (rows v)) → IfErr r (FailsToQuery sql params old new)
    → Rests old new
query_rests sql params old new (Ok v) rows is ok err = shown_rests sql params old new (rows v) is ok
query_rests sql params old new (Err e) rows is ok err = failed_rests sql params old new e is err
