-- The tables of all customers that a database of the office holds.
use Rattle.std.specs.Prelude.{◌≡◌, ⊤, ℕ, pos, Bool, true, false, List, [], ◌∷◌, drop, map, filter, find, is_some, None, IsTrue}
use Rattle.sqlite_schema.specs.Rules.{are_typed}
use Rattle.std.specs.List.{AllByRecursion}
use Rattle.std.specs.Ordering.{is_eq}
use Rattle.std.specs.declared.cmp.Ordering.{Ordering}
use Rattle.sqlite.specs.declared.types.Value.TheVariants.{Int, Text as Words, Blob as Bytes}
use Rattle.sqlite.specs.Order.{Row, column, bytes}
use Rattle.sqlite.specs.Tree.{Trees, IsTable, IsAscending, rowid}
use Rattle.sqlite.specs.View.{is_int}
use Rattle.sqlite.specs.Effect.{Database, IsDatabase}
use Rattle.sqlite_keyed.specs.Lists.{sort_by}
use Rattle.office_tables.specs.Prelude.{Tables, seat_cmp, order_cmp, map_cmp, link_cmp, device_cmp, given_cmp, entry_cmp}
use Rattle.office_sql.specs.OfficeTable.{OfficeTable, meta, seats, maps, links, orders, devices, given, ledger, order_starts, given_starts, site_texts}
use Rattle.office_sql.specs.Schema.{office_schema, orders_table, rows_in}
use Rattle.office_sql.specs.Values.{number_in_cell, text_if, text_value}
use Rattle.office_sql.specs.Rows.{seat_in_row, map_in_row, link_in_row, order_in_row, device_in_row, given_in_row, entry_in_row, is_validity_of_order}
use Rattle.office_sql.specs.Rows.{is_validity_of_given, with_order_not_before, with_given_not_before}

-- the rows of each table in the order of their keys
abbrev pub tables_of : (OfficeTable → List Row) → Tables
tables_of rows = record {
  seats = sort_by seat_cmp (map seat_in_row (rows seats));
  orders = map (with_order_not_before (rows order_starts)) (sort_by order_cmp (map order_in_row (rows orders)));
  devices = sort_by device_cmp (map device_in_row (rows devices));
  given = map (with_given_not_before (rows given_starts)) (sort_by given_cmp (map given_in_row (rows given)));
  maps = sort_by map_cmp (map map_in_row (rows maps));
  links = sort_by link_cmp (map link_in_row (rows links));
  ledger = sort_by entry_cmp (map entry_in_row (rows ledger));
}

-- the tables of a database
abbrev pub tables_in : Trees → Tables
tables_in db = tables_of (rows_in db)

-- what a database tells of itself: the rows of meta, and those of its site's text
pub record Told : Type 0 where
  pub meta : List Row
  pub site_texts : List Row

-- what the database tells of itself, which no write changes
abbrev pub told_in : Trees → Told
told_in db = record { meta = rows_in db meta; site_texts = rows_in db site_texts }

-- a column is a text, bytes, or a number that isn't below zero
abbrev pub IsText : ℕ → Row → Type 0
IsText place r = column r place ≡ Words (bytes (column r place))

abbrev pub IsBlob : ℕ → Row → Type 0
IsBlob place r = column r place ≡ Bytes (bytes (column r place))

abbrev pub IsWhole : ℕ → Row → Type 0
IsWhole place r = column r place ≡ Int (pos (number_in_cell (column r place)))

-- a column is a text, or NULL where the text is missing
abbrev pub IsTextIf : ℕ → Row → Type 0
IsTextIf place r = column r place ≡ text_value (text_if (column r place))

-- no key comes twice
abbrev pub AreKeyed : {A : Type 0} → (A → A → Ordering) → List A → Type 0
AreKeyed cmp = IsAscending (λ a b. is_eq (cmp a b) ≡ false)

-- the rowids are numbers that rise, the keys are of their kinds, and none comes twice
pub record AreRows {A : Type 0} (Typed : Row → Type 0) (cmp : A → A → Ordering) (value : Row → A) (rows : List Row) : Type 0 where
  pub rising : IsTable rows
  pub numbered : AllByRecursion (λ r. IsTrue (is_int (rowid r))) rows
  pub typed : AllByRecursion Typed rows
  pub keyed : AreKeyed cmp (map value rows)

-- a database with the office's schema
abbrev pub office_over : Trees → Database
office_over trees = record { schema = office_schema; trees = trees }

-- the columns that statements look at: of a seat, of a map, of a link
abbrev pub IsSeatRow : Row → Type 0
IsSeatRow r = IsText 1 r

abbrev pub IsMapRow : Row → Type 0
IsMapRow r = IsWhole 0 r × IsText 2 r

abbrev pub IsLinkRow : Row → Type 0
IsLinkRow r = IsText 1 r × IsBlob 2 r

-- a new cursor writes the other columns anew, so that each is to be of its kind
abbrev pub IsOrderRow : Row → Type 0
IsOrderRow r = IsText 1 r × IsText 2 r × (are_typed None 0 orders_table.columns (drop 1 r) ≡ true)

-- the columns of a device that statements look at: customer, chip, order
abbrev pub IsDeviceRow : Row → Type 0
IsDeviceRow r = IsText 1 r × IsText 2 r × IsText 3 r

-- the columns of a given serial number that statements look at: issuer, serial number, key, and the address, which may be missing
abbrev pub IsGivenRow : Row → Type 0
IsGivenRow r = IsText 1 r × IsText 2 r × IsBlob 4 r × IsTextIf 6 r

-- the columns of a ledger's entry that statements look at: id, customer, chip, number
abbrev pub IsEntryRow : Row → Type 0
IsEntryRow r = IsWhole 0 r × IsText 2 r × IsText 3 r × IsWhole 4 r

-- a validity row, of order_start or given_start, tells the beginning of validity of an order or a record, or NULL for none. The columns
-- that statements look at are the key: an order's customer and name, or a record's issuer and serial number
abbrev pub IsValidityRow : Row → Type 0
IsValidityRow r = IsText 1 r × IsText 2 r

-- the rows of a table are as its columns and keys have it. What the database tells of itself is no
-- part of the office, and of the validity rows more is said below
abbrev pub AreRowsOf : OfficeTable → List Row → Type 0
AreRowsOf seats rows = AreRows IsSeatRow seat_cmp seat_in_row rows
AreRowsOf maps rows = AreRows IsMapRow map_cmp map_in_row rows
AreRowsOf links rows = AreRows IsLinkRow link_cmp link_in_row rows
AreRowsOf orders rows = AreRows IsOrderRow order_cmp order_in_row rows
AreRowsOf devices rows = AreRows IsDeviceRow device_cmp device_in_row rows
AreRowsOf given rows = AreRows IsGivenRow given_cmp given_in_row rows
AreRowsOf ledger rows = AreRows IsEntryRow entry_cmp entry_in_row rows
AreRowsOf _ rows = ⊤

-- the rows of each table are as its columns and keys have it
abbrev pub AreOfficeRows : Trees → Type 0
AreOfficeRows db = (table : OfficeTable) → AreRowsOf table (rows_in db table)

-- exactly one of the rows is for this order or record
abbrev pub HasOne : {A : Type 0} → (A → Row → Bool) → List Row → A → Type 0
HasOne is_for validities x = (r : Row) × (filter (is_for x) validities ≡ r ∷ [])

-- each row has exactly one validity row beside it, and each validity row is one of a row
pub record HaveOneValidityRow {A : Type 0} (is_for : A → Row → Bool) (value : Row → A) (rows validities : List Row) : Type 0 where
  pub rising : IsTable validities
  pub numbered : AllByRecursion (λ r. IsTrue (is_int (rowid r))) validities
  pub typed : AllByRecursion IsValidityRow validities
  pub one : AllByRecursion (λ r. HasOne is_for validities (value r)) rows
  pub for_one : AllByRecursion (λ s. is_some (find (λ r. is_for (value r) s) rows) ≡ true) validities

-- a database of the office: it lists its schema, and obeys it, and each order and each record has its beginning of validity told
pub record IsOffice (db : Database) : Type 0 where
  pub schema : db.schema ≡ office_schema
  pub sound : IsDatabase db
  pub rows : AreOfficeRows db.trees
  pub order_validity : HaveOneValidityRow is_validity_of_order order_in_row (rows_in db.trees orders) (rows_in db.trees order_starts)
  pub given_validity : HaveOneValidityRow is_validity_of_given given_in_row (rows_in db.trees given) (rows_in db.trees given_starts)
