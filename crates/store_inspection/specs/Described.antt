-- The columns, references, tables and indexes that the program's own descriptions stand for.
use Rattle.std.specs.Prelude.{false, List, [], map}
use Rattle.sqlite.specs.Schema.{Schema}
use Rattle.sqlite.specs.Table.{Table}
use Rattle.sqlite_schema.specs.declared.schema.Column.{Column}
use Rattle.sqlite_schema.specs.declared.schema.Index.{Index}
use Rattle.sqlite_schema.specs.declared.schema.Reference.{Reference}
use Rattle.store_inspection.specs.declared.schema.ColumnForm.{ColumnForm}
use Rattle.store_inspection.specs.declared.schema.IndexForm.{IndexForm}
use Rattle.store_inspection.specs.declared.schema.ReferenceForm.{ReferenceForm}
use Rattle.store_inspection.specs.declared.schema.TableForm.{TableForm}
use Rattle.sqlite_value.specs.Keys.{plain}
use Rattle.office_sql.specs.Prelude.{column, to, table_at, index_at}

-- a column, a reference, a table and an index, each by the program's description of it
abbrev pub column_of_form : ColumnForm → Column
column_of_form f = column f.0.now f.1 f.2

abbrev pub reference_of : ReferenceForm → Reference
reference_of f = to f.columns.now f.parent.now (map (λ n. n.now) f.names.now)

abbrev pub table_of_form : TableForm → Table
table_of_form f = table_at f.tree f.name.now (map column_of_form f.columns.now) f.key f.primary.now
    (map (λ places. places.now) f.uniques.now) (map reference_of f.references.now)

abbrev pub index_of : IndexForm → Index
index_of f = index_at f.0 f.1.now f.2 f.3.now

-- the table in this tree, with this name and these columns
abbrev pub with_columns : TableForm → Table → Table
with_columns f t = record t { tree = f.tree; name = f.name.now; columns = map column_of_form f.columns.now }

-- the table with these keys, whose indexes ascend
abbrev pub with_table_keys : TableForm → Table → Table
with_table_keys f t = record t {
  key = f.key;
  primary = f.primary.now;
  uniques =
      map (λ places. places.now) f.uniques.now;
  orders =
      map (λ _. plain) (map (λ places. places.now) f.uniques.now);
}

-- the table with no check, and with no default that is computed
abbrev pub bare : Table → Table
bare t = record t { checks = []; computed = []; stamps = record { places = []; terms = []; formats = [] }; is_counted = false }

-- the schema of these tables and indexes
abbrev pub schema_of_forms : List TableForm → List IndexForm → Schema
schema_of_forms tables indexes = record { tables = map table_of_form tables; indexes = map index_of indexes; views = [] }
