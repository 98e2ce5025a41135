-- What a statement changes, and what a transaction has made.
use Rattle.std.specs.Prelude.{◌≡◌, ◌≢◌, ◌⊎◌, ◌<◌, length, ℕ, ℤ, pos, Bool, List, [], ◌∷◌, filter, IsTrue}
use Rattle.sqlite.specs.declared.types.Value.TheVariants.{Int, Null}
use Rattle.sqlite.specs.Order.{Row}
use Rattle.sqlite.specs.Tree.{Trees, put_row, rowid, without_rowid}
use Rattle.sqlite_rules.specs.Edit.{next_rowid}
use Rattle.sqlite.specs.Change.{created, next_tree, KeepsRows}
use Rattle.sqlite.specs.Table.{Table}
use Rattle.sqlite.specs.Schema.{Schema}
use Rattle.sqlite.specs.State.{State}
use Rattle.sqlite.specs.Effect.{Database, IsDatabase}
use Rattle.office_tables.specs.declared.rows.Write.{Write}
use Rattle.office_tables.specs.declared.rows.Write.TheVariants.{PutSeat, AddOrder, SetCursor, AddMap, AddLink, AddDevice, PutDevice, AddGiven, AddEntry}
use Rattle.office_tables.specs.Prelude.{Writes, Written, is_seat, is_order, is_device}
use Rattle.office_sql.specs.OfficeTable.{OfficeTable, seats, maps, links, orders, devices, given, ledger, order_starts, given_starts}
use Rattle.office_sql.specs.Schema.{office_schema, rows_in}
use Rattle.office_sql.specs.Rows.{seat_in_row, order_in_row, device_in_row, seat_columns, map_columns, link_columns, order_columns, order_start_columns}
use Rattle.office_sql.specs.Rows.{columns_with_cursor, device_columns, given_columns, given_start_columns, entry_columns}
use Rattle.office_sql.specs.Tables.{IsOffice, office_over, tables_in, told_in}

-- no other table changes
abbrev pub SameBut : OfficeTable → Trees → Trees → Type 0
SameBut changed old new = (table : OfficeTable) → table ≢ changed → rows_in new table ≡ rows_in old table

-- the table has one row more, whose columns are these, and no other table changes
pub record SqlAdds (table : OfficeTable) (columns : Row) (old new : Database) : Type 0 where
  pub schema : new.schema ≡ office_schema
  pub sound : IsDatabase new
  pub row : rows_in new.trees table ≡ put_row (Int (next_rowid (rows_in old.trees table)) ∷ columns) (rows_in old.trees table)
  pub others : SameBut table old.trees new.trees

-- the row with this rowid has these columns now, and no other table changes
pub record Replaces (table : OfficeTable) (id : ℤ) (columns : Row) (old new : Database) : Type 0 where
  pub schema : new.schema ≡ office_schema
  pub sound : IsDatabase new
  pub row : rows_in new.trees table ≡ put_row (Int id ∷ columns) (without_rowid id (rows_in old.trees table))
  pub others : SameBut table old.trees new.trees

-- no table changes
pub record SqlStays (old new : Database) : Type 0 where
  pub schema : new.schema ≡ office_schema
  pub sound : IsDatabase new
  pub tables : (table : OfficeTable) → rows_in new.trees table ≡ rows_in old.trees table

-- the table is made, with no row, and each other table stays
pub record Makes (schema : Schema) (table : Table) (old new : Database) : Type 0 where
  pub is : new.schema ≡ created schema table
  pub empty : new.trees (next_tree schema) ≡ []
  pub others : KeepsRows schema.tables old.trees new.trees

-- the one row that passes a test has these columns now, made of those that it had
abbrev pub Remakes : OfficeTable → (Row → Bool) → (Row → Row) → Database → Database → Type 0
Remakes table test columns old new =
    (r : Row) × (id : ℤ) × (filter test (rows_in old.trees table) ≡ r ∷ []) × (rowid r ≡ Int id) × Replaces table id (columns r) old new

-- What becomes of the rows by a write: their columns, to the byte. Table `meta` is as it was, also
-- in whatever a crash leaves (`LeavesMade`).
abbrev pub WritesRows : Write → Database → Database → Type 0
WritesRows (PutSeat s) old new =
    SqlAdds seats (seat_columns s) old new ⊎ Remakes seats (λ r. is_seat s.row.name (seat_in_row r)) (λ _. seat_columns s) old new
WritesRows (AddOrder o) old new =
    (mid : Database) × SqlAdds orders (order_columns o) old mid × SqlAdds order_starts (order_start_columns o) mid new
WritesRows (SetCursor c) old new =
    Remakes orders (λ r. is_order c.customer c.row.order (order_in_row r)) (columns_with_cursor c.row.number) old new
WritesRows (AddMap m) old new =
    (mid : Database) × (id : ℕ) × (next_rowid (rows_in old.trees maps) ≡ pos id) × SqlAdds maps (Null ∷ map_columns m) old mid
    × SqlAdds links (link_columns (record { customer = m.customer; row = record { digest = m.row.digest; map = id } })) mid new
WritesRows (AddLink l) old new = SqlAdds links (link_columns l) old new
WritesRows (AddDevice d) old new = SqlAdds devices (device_columns d) old new
WritesRows (PutDevice d) old new =
    Remakes devices (λ r. is_device d.customer d.row.chip (device_in_row r)) (λ _. device_columns d) old new
WritesRows (AddGiven g) old new =
    (mid : Database) × SqlAdds given (given_columns g) old mid × SqlAdds given_starts (given_start_columns g) mid new
WritesRows (AddEntry e) old new = SqlAdds ledger (Null ∷ entry_columns e) old new

-- what becomes of the rows by a list of writes, one after another
abbrev pub WritesAllRows : List Write → Database → Database → Type 0
WritesAllRows [] old new = new ≡ old
WritesAllRows (w ∷ ws) old new = (mid : Database) × WritesRows w old mid × WritesAllRows ws mid new

-- the write is made, and nothing else
pub record Wrote (w : Write) (old new : Database) : Type 0 where
  pub office : IsOffice new
  pub made : Writes w (tables_in old.trees) (tables_in new.trees)
  pub rows : WritesRows w old new
  pub told : told_in new.trees ≡ told_in old.trees

-- the writes are made, one after another, and nothing else
pub record HasWritten (ws : List Write) (old new : Database) : Type 0 where
  pub tables : Written ws (tables_in old.trees) (tables_in new.trees)
  pub rows : WritesAllRows ws old new
  pub told : told_in new.trees ≡ told_in old.trees

-- the transaction goes on, and the last commit stands
pub record IsInside (old new : State) : Type 0 where
  pub was_open : IsTrue old.is_open
  pub is_open : IsTrue new.is_open
  pub committed : new.committed ≡ old.committed
  pub began : IsTrue old.in_transaction
  pub goes_on : IsTrue new.in_transaction

-- an open connection shows the last commit, and was open before
pub record IsUndone (old new : State) : Type 0 where
  pub was_open : IsTrue new.is_open → IsTrue old.is_open
  pub now : IsTrue new.is_open → new.now ≡ old.committed
  pub committed : IsTrue new.is_open → new.committed ≡ old.committed

-- an open connection shows what it showed or the last commit, and was open before
pub record Rests (old new : State) : Type 0 where
  pub was_open : IsTrue new.is_open → IsTrue old.is_open
  pub now : IsTrue new.is_open → (new.now ≡ old.now) ⊎ (new.now ≡ old.committed)
  pub committed : IsTrue new.is_open → new.committed ≡ old.committed

-- all writes are made and committed
pub record IsMade (ws : List Write) (old new : State) : Type 0 where
  pub was_open : IsTrue old.is_open
  pub is_open : IsTrue new.is_open
  pub office : IsOffice new.now
  pub written : HasWritten ws old.now new.now
  pub committed : new.committed ≡ new.now

-- what a crash leaves of a commit that it cut off, if not what was left before: a database of the office in which the writes are made
abbrev pub LeavesMade : List Write → State → Trees → Type 0
LeavesMade ws old trees = IsTrue old.is_open × IsOffice (office_over trees) × HasWritten ws old.now (office_over trees)

-- the transaction under way has made these writes so far, and nothing is committed yet
pub record HasMade (ws : List Write) (old now : State) : Type 0 where
  pub office : IsTrue now.is_open → IsOffice now.now
  pub written : HasWritten ws old.now now.now
  pub committed : now.committed ≡ old.committed
  pub was_open : IsTrue now.is_open → IsTrue old.is_open
  pub is_open : 0 < length ws → IsTrue now.is_open
  pub goes_on : IsTrue now.in_transaction
