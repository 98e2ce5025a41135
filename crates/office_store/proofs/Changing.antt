-- What is said of a call in a transaction, where more is known of it.
use Rattle.std.proofs.Common.{Result, Ok, Err, IfOk, OnOk, IsTrue, inl, refl, arith}
use Rattle.office_sql.proofs.Kit.{Database, Held, State, Survives, Trees, state}
use Rattle.sqlite.specs.Store.{Ghosts}
use Rattle.office_sql.specs.Prelude.{SqlWrites, IsInside}
use Rattle.office_store.specs.Prelude.{IsUnderWay}

-- behind a write a transaction is under way
pub goes_on : {old new : State} → IsInside old new → IsUnderWay new
goes_on inside = record { is_open = inside.is_open; began = inside.goes_on }

-- what isn't touched leaves nothing new
pub stays : (s : State) (Commits : Trees → Type 0) → Survives s s Commits
stays s Commits = record { clean = omega arith; shield = λ h. h; counts = omega arith; limit = refl; closes = λ _ up. inl up; crash = λ _ db left. inl left }

-- what follows from what is said is said
pub says_more : {S A E : Type 0} (g : Ghosts S) (old new : Held S) (r : Result A E) (P Q : Database → Database → A → Type 0)
    → SqlWrites g old new r P → ((x y : Database) (a : A) → P x y a → Q x y a) → SqlWrites g old new r Q
says_more {S} {A} {E} g old new r P Q it more = record { answer = λ clean. said r (it.answer clean); inside = it.inside; kept = it.kept; crash = it.crash }
  where
    said : (r : Result A E) → IfOk r (P (state g old).now (state g new).now) → IfOk r (Q (state g old).now (state g new).now)
    said (Ok a) h = more _ _ a h
    said (Err e) h = tt

-- what is said of a call where its database is as is asked is said where an open connection has such a database
pub said_if_open : {S A E : Type 0} (g : Ghosts S) (old new : Held S) (r : Result A E) (IsSo : Database → Type 0) (Says : Database → Database → A → Type 0)
    → (IsTrue (state g old).is_open → IsSo (state g old).now) → SqlWrites g old new r (λ x y a. IsSo x → Says x y a) → SqlWrites g old new r Says
said_if_open {S} {A} {E} g old new r IsSo Says so it =
    record { answer = λ clean. said r (it.inside clean) (it.answer clean); inside = it.inside; kept = it.kept; crash = it.crash }
  where
    said : (r : Result A E) → OnOk r (IsInside (state g old) (state g new))
        → IfOk r (λ a. IsSo (state g old).now → Says (state g old).now (state g new).now a) → IfOk r (Says (state g old).now (state g new).now)
    said (Ok a) inside h = h (so inside.was_open)
    said (Err e) inside h = tt
