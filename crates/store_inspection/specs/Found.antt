-- What a file that was found is asked before it counts as the office's: no identity and no number
-- of an entry is below zero, and of each order and each record its beginning of validity is told.
use Rattle.std.specs.Prelude.{◌≡◌, ◌≢◌, ℕ, pos, Bool, true, false, not, ◌&&◌, find, is_some, List, [], IsTrue, Result, IfOk, OnOk}
use Rattle.std.specs.List.{AllByRecursion}
use Rattle.sqlite.specs.declared.types.Value.{Value}
use Rattle.sqlite.specs.declared.types.Value.TheVariants.{Int}
use Rattle.std.specs.Ordering.{is_lt}
use Rattle.sqlite.specs.Ops.{is_null}
use Rattle.sqlite.specs.Order.{Row, column, value_cmp}
use Rattle.sqlite.specs.Tree.{Trees}
use Rattle.sqlite.specs.Store.{Ghosts}
use Rattle.sqlite.specs.Held.{Held, state}
use Rattle.sqlite.specs.State.{State, HasCleanDisk, IsUnchanged, Survives}
use Rattle.office_sql.specs.Prelude.{rows_in, maps, orders, given, ledger, order_starts, given_starts, Rests, order_in_row, given_in_row, is_validity_of_order}
use Rattle.office_sql.specs.Prelude.{is_validity_of_given, AreOfficeRows, HaveOneValidityRow}
use Rattle.sqlite.specs.Effect.{Database, IsDatabase}
use Rattle.store_inspection.specs.declared.version.Version.{Version}
use Rattle.store_inspection.specs.declared.version.Version.TheVariants.{V2, V3}
use Rattle.store_inspection.specs.Versions.{number_of_version, schema_of}

-- a value is below zero, as SQL sees it
abbrev pub is_below : Value → Bool
is_below v = not (is_null v) && is_lt (value_cmp v (Int (pos 0)))

-- the column has no number below zero
abbrev pub IsNotBelow : ℕ → Row → Type 0
IsNotBelow place r = is_below (column r place) ≡ false

-- no identity of a map or an entry, and no number of an entry, is below zero
pub record HasWhole (trees : Trees) : Type 0 where
  pub maps : AllByRecursion (IsNotBelow 0) (rows_in trees maps)
  pub entries : AllByRecursion (IsNotBelow 0) (rows_in trees ledger)
  pub numbers : AllByRecursion (IsNotBelow 4) (rows_in trees ledger)

-- an open connection has the schema of a version
abbrev pub HasVersionSchema : State → Type 0
HasVersionSchema s = IsTrue s.is_open → (version : Version) × (s.now.schema ≡ schema_of version)

-- one of the validity rows, at least, is for the row
abbrev pub HasValidityRow : {A : Type 0} → (A → Row → Bool) → (Row → A) → List Row → Row → Type 0
HasValidityRow is_for value validities r = is_some (find (is_for (value r)) validities) ≡ true

-- for each of the rows there is a validity row, at least one
abbrev pub HaveValidityRows : {A : Type 0} → (A → Row → Bool) → (Row → A) → List Row → List Row → Type 0
HaveValidityRows is_for value rows validities = AllByRecursion (HasValidityRow is_for value validities) rows

-- each order and each record has its beginning of validity told
pub record HasValidityRows (trees : Trees) : Type 0 where
  pub orders : HaveValidityRows is_validity_of_order order_in_row (rows_in trees orders) (rows_in trees order_starts)
  pub given : HaveValidityRows is_validity_of_given given_in_row (rows_in trees given) (rows_in trees given_starts)

-- each order and each record has exactly one beginning of validity told
pub record HasOneValidityRowEach (trees : Trees) : Type 0 where
  pub orders : HaveOneValidityRow is_validity_of_order order_in_row (rows_in trees orders) (rows_in trees order_starts)
  pub given : HaveOneValidityRow is_validity_of_given given_in_row (rows_in trees given) (rows_in trees given_starts)

-- no beginning of validity is told
abbrev pub HasNoValidityRow : Trees → Type 0
HasNoValidityRow db = (rows_in db order_starts ≡ []) × (rows_in db given_starts ≡ [])

-- beside the office's rows: in the versions with the number 1 no beginning of validity is told, and
-- in the others, where none lacks, each order and each record has exactly one
abbrev pub AreValidityRowsFound : Version → Database → Type 0
AreValidityRowsFound V2 db = HasValidityRows db.trees → HasOneValidityRowEach db.trees
AreValidityRowsFound V3 db = HasValidityRows db.trees → HasOneValidityRowEach db.trees
AreValidityRowsFound _ db = HasNoValidityRow db.trees

-- a database of a version, with the office's rows
pub record IsFound (version : Version) (db : Database) : Type 0 where
  pub schema : db.schema ≡ schema_of version
  pub sound : IsDatabase db
  pub rows : AreOfficeRows db.trees
  pub validity : AreValidityRowsFound version db

-- a database of a version in which beginnings of validity are told
abbrev pub IsFoundLater : Database → Type 0
IsFoundLater db = (version : Version) × (number_of_version version ≢ 1) × IsFound version db

-- an open connection sees a database of which this is so
abbrev pub Sees : (Database → Type 0) → State → Type 0
Sees Says s = IsTrue s.is_open → Says s.now

-- a test: an answer says this of the trees, nothing is changed, and a crash leaves nothing new
pub record Tests {S A E : Type 0} (g : Ghosts S) (old new : Held S) (result : Result A E) (Says : Trees → A → Type 0) : Type 0 where
  pub answer : HasCleanDisk (state g new) → IfOk result (Says (state g old).now.trees)
  pub same : HasCleanDisk (state g new) → OnOk result (IsUnchanged (state g old) (state g new))
  pub rests : HasCleanDisk (state g new) → Rests (state g old) (state g new)
  pub mode : old.in_transaction ≡ false → new.in_transaction ≡ false
  pub crash : Survives (state g old) (state g new) (λ _. ⊥)
