-- A store whose tables are new.
use Rattle.std.specs.Prelude.{◌≡◌, ℕ, List, []}
use Rattle.sqlite.specs.Tree.{Trees}
use Rattle.sqlite.specs.Effect.{Database}
use Rattle.office_tables.specs.Prelude.{no_rows}
use Rattle.store_inspection.specs.declared.meta.Meta.{Meta}
use Rattle.store_inspection.specs.declared.version.Version.TheVariants.{V3}
use Rattle.store_inspection.specs.Meta.{HoldsSite, meta_of_version, metas_in}
use Rattle.office_sql.specs.Prelude.{IsOffice, tables_in}

-- no row of a table, and none of meta
pub record HasNothing (db : Trees) : Type 0 where
  pub tables : tables_in db ≡ no_rows
  pub silent : metas_in db ≡ []

-- the row that a new store has
abbrev pub new_meta : List ℕ → Meta
new_meta = meta_of_version V3

-- the tables have no row but those that tell of this text of the site
pub record IsFresh (text : List ℕ) (db : Trees) : Type 0 where
  pub tables : tables_in db ≡ no_rows
  pub tells : HoldsSite text db

-- a database of the office with no row but those that tell of the text
pub record IsBegun (text : List ℕ) (db : Database) : Type 0 where
  pub office : IsOffice db
  pub fresh : IsFresh text db.trees
