-- What the functions that read the database have in common, and those that write in a transaction.
use Rattle.std.specs.Prelude.{◌≡◌, false, IsTrue, Result, IfOk, OnOk}
use Rattle.sqlite.specs.Store.{Ghosts}
use Rattle.sqlite.specs.Held.{Held, state}
use Rattle.sqlite.specs.Effect.{Database}
use Rattle.sqlite.specs.State.{State, HasCleanDisk, IsUnchanged, KeepsCommit, Survives}
use Rattle.office_tables.specs.Prelude.{Tables}
use Rattle.office_sql.specs.Change.{IsInside, Rests}
use Rattle.office_sql.specs.Schema.{office_schema}
use Rattle.office_sql.specs.Tables.{IsOffice, tables_in}

-- an open connection has the tables of the office
abbrev pub HasOffice : State → Type 0
HasOffice s = IsTrue s.is_open → IsOffice s.now

-- an open connection has the office's schema, whatever its rows
abbrev pub HasOfficeSchema : State → Type 0
HasOfficeSchema s = IsTrue s.is_open → s.now.schema ≡ office_schema

-- a read: an answer says this of the tables, nothing is changed, and a crash leaves nothing new
pub record SqlReads {S A E : Type 0} (g : Ghosts S) (old new : Held S) (result : Result A E) (Says : Tables → A → Type 0) : Type 0 where
  pub answer : HasCleanDisk (state g new) → IfOk result (Says (tables_in (state g old).now.trees))
  pub same : HasCleanDisk (state g new) → OnOk result (IsUnchanged (state g old) (state g new))
  pub rests : HasCleanDisk (state g new) → Rests (state g old) (state g new)
  pub mode : old.in_transaction ≡ false → new.in_transaction ≡ false
  pub crash : Survives (state g old) (state g new) (λ _. ⊥)

-- a write in a transaction: an answer says this of the database before and after it, the transaction goes on then, and the last commit stands
pub record SqlWrites {S A E : Type 0} (g : Ghosts S) (old new : Held S) (result : Result A E) (Says : Database → Database → A → Type 0) : Type 0 where
  pub answer : HasCleanDisk (state g new) → IfOk result (Says (state g old).now (state g new).now)
  pub inside : HasCleanDisk (state g new) → OnOk result (IsInside (state g old) (state g new))
  pub kept : HasCleanDisk (state g new) → KeepsCommit (state g old) (state g new)
  pub crash : Survives (state g old) (state g new) (λ _. ⊥)
