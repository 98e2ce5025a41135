-- What the functions that read the database in a transaction have in common.
use Rattle.std.specs.Prelude.{◌≡◌, Result, IfOk, OnOk, IsTrue}
use Rattle.sqlite.specs.Store.{Ghosts}
use Rattle.sqlite.specs.Held.{Held, state}
use Rattle.sqlite.specs.State.{State, HasCleanDisk, KeepsCommit, Survives}
use Rattle.office_tables.specs.Prelude.{Tables}
use Rattle.office_sql.specs.Tables.{tables_in}

-- a connection shows what it showed, and was open before if it is
pub record SqlUnchanged (old new : State) : Type 0 where
  pub was_open : IsTrue new.is_open → IsTrue old.is_open
  pub now : new.now ≡ old.now
  pub committed : new.committed ≡ old.committed
  pub mode : new.in_transaction ≡ old.in_transaction

-- a read in a transaction: an answer says this of the tables, nothing is changed then, and the last commit stands
pub record Looks {S A E : Type 0} (g : Ghosts S) (old new : Held S) (result : Result A E) (Says : Tables → A → Type 0) : Type 0 where
  pub answer : HasCleanDisk (state g new) → IfOk result (Says (tables_in (state g old).now.trees))
  pub stands : HasCleanDisk (state g new) → OnOk result (SqlUnchanged (state g old) (state g new))
  pub kept : HasCleanDisk (state g new) → KeepsCommit (state g old) (state g new)
  pub crash : Survives (state g old) (state g new) (λ _. ⊥)
