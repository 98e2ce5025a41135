-- The texts of a list are run, one after another.
use Rattle.std.proofs.Common.{◌≡◌, ◌≤◌, ◌⊎◌, ◌+◌, ◌∙◌, ◌∷◌, ◌++◌, ℕ, List, [], false, drop, map, length, length-drop, take, take_all, Ok, Err, Result}
use Rattle.std.proofs.Common.{IsTrue, refl, sym, ap, subst, subst₂, inl, inr, arith}
use Rattle.std.proofs.lemmas.List.{drop-map}
use Rattle.office_sql.proofs.Kit.{Row, Error, Database, Held, state, State, HasCleanDisk, Survives, ExecutesInside, SqliteFailure, Executes}
use Rattle.office_sql.proofs.Kit.{TransactionState}
use Rattle.sqlite.specs.Store.{Ghosts}
use Rattle.office_sql.specs.Prelude.{SqlWrites}
use Rattle.office_sql.proofs.Inserting.{changed, done}
use Rattle.office_sql.proofs.MapChanges.{changes_then}
use Rattle.office_store.specs.declared.steps.Step.{Step}
use Rattle.office_store.specs.Prelude.{all_steps, HasRun, HaveRun, SqlText, taken, text_of}

-- what is so of each run of a text is so of the databases
pub run_says : {S : Type 0} (g : Ghosts S) (text : SqlText) (site : List ℕ) (x y : Database) (Says : Database → Database → Type 0)
    → ((old new : State) (count : ℕ) → Executes text.sql (taken text.takes site) old new (Ok count) → Says old.now new.now)
    → HasRun g text site x y → Says x y
run_says g text site x y Says says it = subst₂ Says it.was it.is (says (state g it.old) (state g it.new) it.count it.ran)

-- a call changes what each run of its text does
pub ran_so : {S : Type 0} (g : Ghosts S) (sql : List ℕ) (Says : Database → Database → Type 0) (old new : Held S) (params values : Row) (count : ℕ)
    → ((n : ℕ) → Executes sql values (state g old) (state g new) (Ok n) → Says (state g old).now (state g new).now) → params ≡ values
    → (old.in_transaction ≡ false → (Ok count ≡ Err (SqliteFailure TransactionState)) × (new ≡ old))
    → (HasCleanDisk (state g new) → IsTrue old.in_transaction → ExecutesInside 0 sql params (state g old) (state g new) (Ok count))
    → Survives (state g old) (state g new) (λ _. ⊥) → SqlWrites {A = Unit {0}} {E = Error} g old new (Ok tt) (λ x y _. Says x y)
ran_so g sql Says old new params values count says bound ended runs survives =
    done g old new count tt (λ x y _. Says x y) (λ x y _. Says x y)
    (changed g sql params values bound old new (Ok count) (λ x y _. Says x y) (λ n up ran. says n ran) ended runs survives) (λ x y h. h)

-- a call with what the text takes runs it
pub step_run : {S : Type 0} (g : Ghosts S) (text : SqlText) (site : List ℕ) (old new : Held S) (params values : Row) (count : ℕ)
    → params ≡ values → values ≡ taken text.takes site
    → (old.in_transaction ≡ false → (Ok count ≡ Err (SqliteFailure TransactionState)) × (new ≡ old))
    → (HasCleanDisk (state g new) → IsTrue old.in_transaction → ExecutesInside 0 text.sql params (state g old) (state g new) (Ok count))
    → Survives (state g old) (state g new) (λ _. ⊥) → SqlWrites {A = Unit {0}} {E = Error} g old new (Ok tt) (λ x y _. HasRun g text site x y)
step_run g text site old new params values count bound takes ended runs survives =
    ran_so g text.sql (HasRun g text site) old new params (taken text.takes site) count
    (λ n ran. record { old = old; new = new; count = n; was = refl; is = refl; ran = ran }) (bound ∙ takes) ended runs survives

module _ {S : Type 0} (g : Ghosts S) (site : List ℕ) where
  -- no text was run yet, or the first ones were
  abbrev pub HaveRunSoFar : List SqlText → Held S → Held S → Type 0
  HaveRunSoFar texts old new =
      ((texts ≡ []) × (new ≡ old)) ⊎ SqlWrites {A = Unit {0}} {E = Error} g old new (Ok tt) (λ x y _. HaveRun g texts site x y)

  one_more : (texts : List SqlText) (text : SqlText) (x y z : Database) → HaveRun g texts site x y → HasRun g text site y z
      → HaveRun g (texts ++ text ∷ []) site x z
  one_more [] text x y z is ran = (z, subst (λ d. HasRun g text site d z) is ran, refl)
  one_more (t ∷ texts) text x y z p ran = (p.0, p.1, one_more texts text p.0 y z p.2 ran)

  -- a text more is run
  pub runs_next : (texts : List SqlText) (text : SqlText) (old mid new : Held S) → HaveRunSoFar texts old mid
      → SqlWrites {A = Unit {0}} {E = Error} g mid new (Ok tt) (λ x y _. HasRun g text site x y) → HaveRunSoFar (texts ++ text ∷ []) old new
  runs_next [] text old mid new (inl same) did =
      inr (subst (λ h. SqlWrites {A = Unit {0}} {E = Error} g h new (Ok tt) (λ x z _. HaveRun g (text ∷ []) site x z)) same.1
      (done g mid new tt tt (λ x y _. HasRun g text site x y) (λ x z _. HaveRun g (text ∷ []) site x z) did (λ x y ran. (y, ran, refl))))
  runs_next (t ∷ texts) text old mid new (inl same) did = absurd (let none = same.0 in cc)
  runs_next texts text old mid new (inr so_far) did =
      inr (changes_then g old mid new tt (Ok tt) (λ x y _. HaveRun g texts site x y) (λ y z _. HasRun g text site y z)
      (λ x z _. HaveRun g (texts ++ text ∷ []) site x z) so_far did (λ x y z _ p q. one_more texts text x y z p q))

  -- of all steps those from a place on are taken
  pub steps_taken : (old new : Held S) (r : Result (Unit {0}) Error) (steps : List Step) (count from first : ℕ)
      → SqlWrites g old new r (λ x y _. HaveRun g (map text_of (take count (drop from steps))) site x y)
      → length steps ≤ count + from → map text_of steps ≡ all_steps → from ≡ first
      → SqlWrites g old new r (λ x y _. HaveRun g (drop first all_steps) site x y)
  steps_taken old new r steps count from first ran enough are is =
      let whole : take count (drop from steps) ≡ drop from steps = take_all count (drop from steps) (omega (arith, length-drop from steps, enough)) in
      let all : map text_of (take count (drop from steps)) ≡ drop first all_steps =
      ap (map text_of) whole ∙ sym (drop-map text_of from steps) ∙ ap (drop from) are ∙ ap (λ n. drop n all_steps) is in
      subst (λ texts. SqlWrites g old new r (λ x y _. HaveRun g texts site x y)) all ran
