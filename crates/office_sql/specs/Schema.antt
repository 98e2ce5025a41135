-- The tables of the office, as SQL understands them.
use Rattle.std.specs.Prelude.{ℕ, Bool, true, false, List, [], ◌∷◌, codes, Option, Some, None, map}
use Rattle.sqlite.specs.Collation.TheVariants.{Binary}
use Rattle.sqlite.specs.declared.types.Value.TheVariants.{Null}
use Rattle.sqlite.specs.Table.{Table}
use Rattle.sqlite.specs.Schema.{Schema}
use Rattle.sqlite.specs.Kind.{Kind}
use Rattle.sqlite.specs.Kind.TheVariants.{Integer, Text, Blob}
use Rattle.sqlite_schema.specs.declared.schema.Column.{Column}
use Rattle.sqlite_schema.specs.declared.schema.Index.{Index}
use Rattle.sqlite_schema.specs.declared.schema.Reference.{Reference}
use Rattle.sqlite_schema.specs.declared.schema.Action.TheVariants.{NoAction}
use Rattle.sqlite_value.specs.Keys.{plain}
use Rattle.sqlite.specs.Order.{Row}
use Rattle.sqlite.specs.Tree.{Trees}
use Rattle.office_sql.specs.OfficeTable.{OfficeTable, meta, seats, maps, links, orders, devices, given, ledger, order_starts, given_starts, site_texts}

-- a column by its name and its kind, and whether NULL is refused
abbrev pub column : List ℕ → Kind → Bool → Column
column name kind required = record { name = name; kind = kind; is_strict = true; not_null = required; default = Null; collation = Binary }

-- a text, bytes or a whole number, by the column's name: none of them may be missing
abbrev pub text : List ℕ → Column
text name = column name Text true

abbrev pub blob : List ℕ → Column
blob name = column name Blob true

abbrev pub whole : List ℕ → Column
whole name = column name Integer true

-- the columns at these places refer to those of the parent table, by their names
abbrev pub to : List ℕ → List ℕ → List (List ℕ) → Reference
to columns parent names = record { columns = columns; parent = parent; parent_columns = names; on_delete = NoAction; on_update = NoAction; is_deferred = false }

-- a table in this tree; each of its keys is a list of places, where a row's rowid has place 0
abbrev pub table_at : ℕ → List ℕ → List Column → Option ℕ → List ℕ → List (List ℕ) → List Reference → Table
table_at tree name columns key primary uniques references = record {
  name = name;
  tree = tree;
  columns = columns;
  key = key;
  primary = primary;
  uniques = uniques;
  orders = map (λ _. plain) uniques;
  checks = [];
  references = references;
  computed = [];
  stamps = record { places = []; terms = []; formats = [] };
  is_counted = false;
}

-- the index of a key in this tree: the tree of its table, and the places of the key's columns
abbrev pub index_at : ℕ → List ℕ → ℕ → List ℕ → Index
index_at tree name table columns = record { name = name; tree = tree; table = table; columns = columns; order = plain; is_unique = true }

-- what the store tells of itself: one row
abbrev pub meta_table : Table
meta_table = table_at 0 (codes "meta") (column (codes "id") Integer false ∷ whole (codes "schema") ∷ blob (codes "site") ∷ []) (Some 0) (0 ∷ []) ([]) ([])

-- the tables of the office's rows, each behind those that it refers to
abbrev pub seat_table : Table
seat_table = table_at 1 (codes "seat") (text (codes "name") ∷ text (codes "customer") ∷ whole (codes "last") ∷ blob (codes "digest") ∷ text (codes "reply") ∷ []) None (1 ∷ []) ((1 ∷ []) ∷ []) ([])

abbrev pub map_table : Table
map_table = table_at 3 (codes "map") (column (codes "id") Integer false ∷ text (codes "body") ∷ blob (codes "digest") ∷ []) (Some 0) (0 ∷ []) ((2 ∷ []) ∷ []) ([])

abbrev pub link_table : Table
link_table = table_at 5 (codes "link") (text (codes "customer") ∷ blob (codes "digest") ∷ whole (codes "map") ∷ []) None (1 ∷ 2 ∷ []) ((1 ∷ 2 ∷ []) ∷ []) (to (3 ∷ []) (codes "map") (codes "id" ∷ []) ∷ [])

abbrev pub orders_table : Table
orders_table = table_at 7 (codes "orders") (text (codes "customer") ∷ text (codes "name") ∷ text (codes "issuer") ∷ text (codes "prefix") ∷ whole (codes "width") ∷ whole (codes "first") ∷ whole (codes "quantity") ∷ whole (codes "macs") ∷ column (codes "mac") Text false ∷ whole (codes "cursor") ∷ []) None (1 ∷ 2 ∷ []) ((1 ∷ 2 ∷ []) ∷ []) ([])

abbrev pub device_table : Table
device_table = table_at 9 (codes "device") (text (codes "customer") ∷ text (codes "chip") ∷ text (codes "ord") ∷ blob (codes "map") ∷ text (codes "state") ∷ column (codes "reason") Text false ∷ blob (codes "bits") ∷ blob (codes "keys") ∷ blob (codes "todo") ∷ column (codes "serial") Text false ∷ []) None (1 ∷ 2 ∷ []) ((1 ∷ 2 ∷ []) ∷ []) (to (1 ∷ 3 ∷ []) (codes "orders") (codes "customer" ∷ codes "name" ∷ []) ∷ to (1 ∷ 4 ∷ []) (codes "link") (codes "customer" ∷ codes "digest" ∷ []) ∷ [])

abbrev pub given_table : Table
given_table = table_at 11 (codes "given") (text (codes "issuer") ∷ text (codes "serial") ∷ text (codes "customer") ∷ blob (codes "key") ∷ column (codes "chip") Text false ∷ column (codes "mac") Text false ∷ text (codes "not_after") ∷ []) None (1 ∷ 2 ∷ []) ((1 ∷ 2 ∷ []) ∷ (1 ∷ 4 ∷ []) ∷ (6 ∷ 1 ∷ 2 ∷ []) ∷ []) ([])

abbrev pub ledger_table : Table
ledger_table = table_at 15 (codes "ledger") (column (codes "id") Integer false ∷ text (codes "customer") ∷ text (codes "chip") ∷ whole (codes "n") ∷ text (codes "event") ∷ text (codes "note") ∷ text (codes "seat") ∷ blob (codes "bits") ∷ blob (codes "keys") ∷ []) (Some 0) (0 ∷ []) ((2 ∷ 3 ∷ 4 ∷ []) ∷ []) (to (2 ∷ 3 ∷ []) (codes "device") (codes "customer" ∷ codes "chip" ∷ []) ∷ [])

-- the beginning of validity of an order, and of a record: one row for each
abbrev pub order_start_table : Table
order_start_table = table_at 17 (codes "order_start") (text (codes "customer") ∷ text (codes "ord") ∷ column (codes "not_before") Text false ∷ []) None (1 ∷ 2 ∷ []) ((1 ∷ 2 ∷ []) ∷ []) (to (1 ∷ 2 ∷ []) (codes "orders") (codes "customer" ∷ codes "name" ∷ []) ∷ [])

abbrev pub given_start_table : Table
given_start_table = table_at 19 (codes "given_start") (text (codes "issuer") ∷ text (codes "serial") ∷ column (codes "not_before") Text false ∷ []) None (1 ∷ 2 ∷ []) ((1 ∷ 2 ∷ []) ∷ []) (to (1 ∷ 2 ∷ []) (codes "given") (codes "issuer" ∷ codes "serial" ∷ []) ∷ [])

-- the text of the site: one row
abbrev pub site_text_table : Table
site_text_table = table_at 21 (codes "site_text") (column (codes "id") Integer false ∷ text (codes "body") ∷ []) (Some 0) (0 ∷ []) ([]) ([])

-- each table by its name, and the tree of its rows
abbrev pub table_of : OfficeTable → Table
table_of meta = meta_table
table_of seats = seat_table
table_of maps = map_table
table_of links = link_table
table_of orders = orders_table
table_of devices = device_table
table_of given = given_table
table_of ledger = ledger_table
table_of order_starts = order_start_table
table_of given_starts = given_start_table
table_of site_texts = site_text_table

abbrev pub tree_of : OfficeTable → ℕ
tree_of table = (table_of table).tree

-- the rows of a table in a database
abbrev pub rows_in : Trees → OfficeTable → List Row
rows_in db table = db (tree_of table)

-- the place of a table in the schema
abbrev pub place_of : OfficeTable → ℕ
place_of meta = 0
place_of seats = 1
place_of maps = 2
place_of links = 3
place_of orders = 4
place_of devices = 5
place_of given = 6
place_of ledger = 7
place_of order_starts = 8
place_of given_starts = 9
place_of site_texts = 10

-- the schema of the office: its tables, and an index for each of their keys that is no rowid
abbrev pub office_schema : Schema
office_schema = record {
  tables = meta_table ∷ seat_table ∷ map_table ∷ link_table ∷ orders_table ∷ device_table
      ∷ given_table ∷ ledger_table ∷ order_start_table ∷ given_start_table ∷ site_text_table ∷ [];
  indexes = index_at 2 (codes "sqlite_autoindex_seat_1") (tree_of seats) (1 ∷ []) ∷ index_at 4 (codes "sqlite_autoindex_map_1") (tree_of maps) (2 ∷ []) ∷ index_at 6 (codes "sqlite_autoindex_link_1") (tree_of links) (1 ∷ 2 ∷ []) ∷ index_at 8 (codes "sqlite_autoindex_orders_1") (tree_of orders) (1 ∷ 2 ∷ []) ∷ index_at 10 (codes "sqlite_autoindex_device_1") (tree_of devices) (1 ∷ 2 ∷ []) ∷ index_at 12 (codes "sqlite_autoindex_given_1") (tree_of given) (1 ∷ 2 ∷ []) ∷ index_at 13 (codes "sqlite_autoindex_given_2") (tree_of given) (1 ∷ 4 ∷ []) ∷ index_at 14 (codes "sqlite_autoindex_given_3") (tree_of given) (6 ∷ 1 ∷ 2 ∷ []) ∷ index_at 16 (codes "sqlite_autoindex_ledger_1") (tree_of ledger) (2 ∷ 3 ∷ 4 ∷ []) ∷ index_at 18 (codes "sqlite_autoindex_order_start_1") (tree_of order_starts) (1 ∷ 2 ∷ []) ∷ index_at 20 (codes "sqlite_autoindex_given_start_1") (tree_of given_starts) (1 ∷ 2 ∷ []) ∷ [];
  views = [];
}

-- that of a database in which there is nothing yet
abbrev pub no_schema : Schema
no_schema = record { tables = []; indexes = []; views = [] }

-- a store that has the table meta alone
abbrev pub with_meta : Schema
with_meta = record { tables = meta_table ∷ []; indexes = []; views = [] }
