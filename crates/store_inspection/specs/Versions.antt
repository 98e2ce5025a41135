-- The schemas that a database of the office may have, and the numbers by which a store tells them.
use Rattle.std.specs.Prelude.{◌≡◌, ◌≢◌, ◌<◌, ⊤, ℕ, List, [], ◌∷◌, ◌++◌, codes, take, drop, if◌then◌else◌, nat_lt}
use Rattle.sqlite.specs.Order.{Row}
use Rattle.sqlite.specs.Table.{Table}
use Rattle.sqlite.specs.Schema.{Schema}
use Rattle.sqlite.specs.Tree.{Trees}
use Rattle.sqlite_schema.specs.declared.schema.Index.{Index}
use Rattle.sqlite_value.specs.Keys.{plain}
use Rattle.office_sql.specs.Prelude.{OfficeTable, given, office_schema, given_table, ledger_table, index_at, place_of, rows_in, tree_of}
use Rattle.store_inspection.specs.declared.version.Version.{Version}
use Rattle.store_inspection.specs.declared.version.Version.TheVariants.{V1a, V1b, V1, V2, V3}

-- the number by which a store tells its version: the first three tell the same
abbrev pub number_of_version : Version → ℕ
number_of_version V2 = 2
number_of_version V3 = 3
number_of_version _ = 1

-- how many tables a version has: the first of the office's
abbrev pub count_of : Version → ℕ
count_of V2 = 10
count_of V3 = 11
count_of _ = 8

-- the rows of the first tables stand
abbrev pub KeepsFirst : ℕ → Trees → Trees → Type 0
KeepsFirst count old new = (table : OfficeTable) → place_of table < count → rows_in new table ≡ rows_in old table

-- the rows of the first tables stand, but for one table that may change
abbrev pub KeepsFirstBut : OfficeTable → ℕ → Trees → Trees → Type 0
KeepsFirstBut changed count old new =
    (table : OfficeTable) → place_of table < count → table ≢ changed → rows_in new table ≡ rows_in old table

-- the rows of a table that a version has; another has none
abbrev pub rows_at : Version → Trees → OfficeTable → List Row
rows_at version db table = if nat_lt (place_of table) (count_of version) then rows_in db table else []

-- the first tables of the office with their indexes
abbrev pub first_tables : ℕ → ℕ → Schema
first_tables tables indexes = record {
  tables = take tables office_schema.tables;
  indexes = take indexes office_schema.indexes;
  views = [];
}

-- the table `given` with these three keys
abbrev pub given_keyed : List ℕ → List ℕ → List ℕ → Table
given_keyed one two three =
    record given_table { uniques = one ∷ two ∷ three ∷ []; orders = plain ∷ plain ∷ plain ∷ [] }

-- the indexes of the table `given` by these three keys
abbrev pub given_indexes : List ℕ → List ℕ → List ℕ → List Index
given_indexes one two three =
    index_at 12 (codes "sqlite_autoindex_given_1") (tree_of given) one
    ∷ index_at 13 (codes "sqlite_autoindex_given_2") (tree_of given) two
    ∷ index_at 14 (codes "sqlite_autoindex_given_3") (tree_of given) three ∷ []

-- the first version's schema with such a `given`
abbrev pub schema_keyed : List ℕ → List ℕ → List ℕ → Schema
schema_keyed one two three = record {
  tables = take 6 office_schema.tables ++ given_keyed one two three ∷ ledger_table ∷ [];
  indexes = take 5 office_schema.indexes ++ given_indexes one two three
      ++ take 1 (drop 8 office_schema.indexes);
  views = [];
}

-- the schema of a version: the first has no table of beginnings of validity, and neither it nor the
-- second one of the site's text; before it `given` had a key of the address alone, named last or first
abbrev pub schema_of : Version → Schema
schema_of V1a = schema_keyed (1 ∷ 2 ∷ []) (1 ∷ 4 ∷ []) (6 ∷ [])
schema_of V1b = schema_keyed (6 ∷ []) (1 ∷ 2 ∷ []) (1 ∷ 4 ∷ [])
schema_of V1 = first_tables 8 9
schema_of V2 = first_tables 10 11
schema_of V3 = office_schema

-- a version whose `given` has a key of the address alone
abbrev pub IsBeforeV1 : Version → Type 0
IsBeforeV1 V1a = ⊤
IsBeforeV1 V1b = ⊤
IsBeforeV1 _ = ⊥

-- a schema that no version has
abbrev pub IsOfNoVersion : Schema → Type 0
IsOfNoVersion schema = (version : Version) → schema ≢ schema_of version
