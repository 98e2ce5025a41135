-- What calls in a transaction change, where one fails and where one follows another.
use Rattle.std.proofs.Common.{◌≡◌, ℕ, List, false, ◌∙◌, Ok, Err, Result, IfOk, OnOk, IsErr, IsTrue}
use Rattle.office_sql.proofs.Kit.{Row, Error, Database, Held, state, HasCleanDisk, KeepsCommit, Survives, ExecutesInside, survives_then}
use Rattle.sqlite.specs.Store.{Ghosts}
use Rattle.office_sql.specs.Prelude.{IsInside, SqlWrites}
use Rattle.office_sql.proofs.Asked.{was_clean}
use Rattle.office_sql.proofs.Inside.{kept}

-- where a call failed, nothing is said
pub refused : {S A E : Type 0} (g : Ghosts S) (old new : Held S) (text : List ℕ) (params : Row)
    (r : Result ℕ Error) (X : Type 0) (q : Result A E) (Q : Database → Database → A → Type 0)
    → IsErr q
    → (old.in_transaction ≡ false → X × (new ≡ old))
    → (HasCleanDisk (state g new) → IsTrue old.in_transaction
    → ExecutesInside 0 text params (state g old) (state g new) r)
    → Survives (state g old) (state g new) (λ _. ⊥) → SqlWrites g old new q Q
refused g old new text params r X (Ok a) Q is ended runs survives = absurd (let none = is in cc)
refused g old new text params r X (Err e) Q is ended runs survives = record {
  answer =
      λ _. tt;
  inside = λ _. tt;
  kept = λ clean.
      kept g old new text params r X ended (runs clean);
  crash = survives;
}

-- where what was changed tells what is answered
pub answered : {S A B E F : Type 0} (g : Ghosts S) (old new : Held S) (a : A) (r : Result B F)
    (P : Database → Database → A → Type 0) (Q : Database → Database → B → Type 0)
    → SqlWrites {E = E} g old new (Ok a) P → ((x y : Database) → P x y a → IfOk r (Q x y)) → SqlWrites g old new r Q
answered {S} {A} {B} {E} {F} g old new a r P Q it answer = record {
  answer = λ clean.
      answer _ _ (it.answer clean);
  inside =
      λ clean. inside r (it.inside clean);
  kept = it.kept;
  crash = it.crash;
}
  where
    inside : (r : Result B F) → IsInside (state g old) (state g new) → OnOk r (IsInside (state g old) (state g new))
    inside (Ok b) i = i
    inside (Err e) i = tt

-- one call after another, on an open store
pub changes_here : {S A B E : Type 0} (g : Ghosts S) (old mid new : Held S) (a : A) (r : Result B E)
    (P : Database → Database → A → Type 0) (Q R : Database → Database → B → Type 0)
    → SqlWrites {E = E} g old mid (Ok a) P → SqlWrites g mid new r Q
    → ((b : B) → IsTrue (state g old).is_open → P (state g old).now (state g mid).now a
    → Q (state g mid).now (state g new).now b → R (state g old).now (state g new).now b)
    → SqlWrites g old new r R
changes_here {S} {A} {B} {E} g old mid new a r P Q R first second both = record {
  answer = λ clean. said r (first.inside (before clean)).was_open (first.answer (before clean)) (second.answer clean);
  inside = λ clean. inside r (first.inside (before clean)) (second.inside clean);
  kept = λ clean. still (first.kept (before clean)) (second.kept clean);
  crash = survives_then (state g old) (state g mid) (state g new) _ _ (λ _. ⊥) (λ _ db none. none) (λ _ db none. none) first.crash second.crash;
}
  where
    before : HasCleanDisk (state g new) → HasCleanDisk (state g mid)
    before = was_clean (state g mid) (state g new) _ second.crash

    said : (r : Result B E) → IsTrue (state g old).is_open → P (state g old).now (state g mid).now a
        → IfOk r (Q (state g mid).now (state g new).now)
        → IfOk r (R (state g old).now (state g new).now)
    said (Ok b) up p q = both b up p q
    said (Err e) up p q = tt

    inside : (r : Result B E) → IsInside (state g old) (state g mid)
        → OnOk r (IsInside (state g mid) (state g new))
        → OnOk r (IsInside (state g old) (state g new))
    inside (Ok b) i j = record { was_open = i.was_open; is_open = j.is_open; committed = j.committed ∙ i.committed; began = i.began; goes_on = j.goes_on }
    inside (Err e) i j = tt

    still : KeepsCommit (state g old) (state g mid) → KeepsCommit (state g mid) (state g new) → KeepsCommit (state g old) (state g new)
    still i j = record { was_open = λ up. i.was_open (j.was_open up); committed = λ up. j.committed up ∙ i.committed (j.was_open up) }

-- one call after another
pub changes_then : {S A B E : Type 0} (g : Ghosts S) (old mid new : Held S) (a : A) (r : Result B E)
    (P : Database → Database → A → Type 0) (Q R : Database → Database → B → Type 0)
    → SqlWrites {E = E} g old mid (Ok a) P → SqlWrites g mid new r Q → ((x y z : Database) (b : B) → P x y a → Q y z b → R x z b) → SqlWrites g old new r R
changes_then g old mid new a r P Q R first second both = changes_here g old mid new a r P Q R first second (λ b up p q. both _ _ _ b p q)
