-- What a database is before it is taken as a store: one of a version, or none yet. Its schema is the
-- one that its own list of objects tells.
use Rattle.std.specs.Prelude.{◌≡◌, ◌⊎◌}
use Rattle.sqlite.specs.Tree.{Trees}
use Rattle.sqlite.specs.Effect.{Database, IsDatabase}
use Rattle.sqlite.specs.Schema.{Schema}
use Rattle.office_sql.specs.Prelude.{no_schema}
use Rattle.store_inspection.specs.declared.version.Version.{Version}
use Rattle.office_store.specs.declared.opening.Absent.{Absent}
use Rattle.office_store.specs.declared.opening.Absent.TheVariants.{Make, Refuse}
use Rattle.office_store.specs.Making.{HasNothing}
use Rattle.office_store.specs.Upgrading.{TellsItself}
use Rattle.store_inspection.specs.Versions.{schema_of}

-- the trees list this schema, and obey it
abbrev pub HasSchema : Schema → Trees → Type 0
HasSchema schema db = IsDatabase (record { schema = schema; trees = db })

-- there is no store yet: the database has no schema, and nothing in it
pub record IsNoStore (db : Trees) : Type 0 where
  pub schema : HasSchema no_schema db
  pub nothing : HasNothing db

-- a store of a version: the schema is that version's, and the one row of meta tells it
pub record IsStoreOf (version : Version) (db : Trees) : Type 0 where
  pub schema : HasSchema (schema_of version) db
  pub told : TellsItself version db

-- a store of any version
abbrev pub IsStore : Trees → Type 0
IsStore db = (version : Version) × IsStoreOf version db

-- a store, or none yet
abbrev pub IsStoreOrNone : Trees → Type 0
IsStoreOrNone db = IsNoStore db ⊎ IsStore db

-- what is opened: a store of a version, or none where one is to be made
abbrev pub IsTaken : Absent → Trees → Type 0
IsTaken Make db = IsStoreOrNone db
IsTaken Refuse db = IsStore db

-- a database in which there is no store, where none is to be made
abbrev pub LacksStore : Absent → Database → Type 0
LacksStore absent db = (absent ≡ Refuse) × (db.schema ≡ no_schema)
