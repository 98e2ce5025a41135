-- How a database of an earlier version comes to have the tables of the third, in one transaction.
use Rattle.std.specs.Prelude.{◌≡◌, ◌≢◌, ◌<◌, ℕ, List}
use Rattle.sqlite.specs.Tree.{Trees}
use Rattle.sqlite.specs.Effect.{Database}
use Rattle.office_sql.specs.Prelude.{OfficeTable, meta, place_of, rows_in, IsOffice, tables_in}
use Rattle.store_inspection.specs.declared.version.Version.{Version}
use Rattle.store_inspection.specs.declared.version.Version.TheVariants.{V3}
use Rattle.store_inspection.specs.Meta.{HasMeta}
use Rattle.store_inspection.specs.SiteTexts.{HoldsSiteText}
use Rattle.store_inspection.specs.Versions.{count_of}

-- a store of a version tells of itself, whatever its site
abbrev pub TellsItself : Version → Trees → Type 0
TellsItself version db = (site : List ℕ) × HasMeta version site db

-- Each row but that of meta stands, and the tables say what they said. The third version is told of
-- the same site, of which the text is held. All is as the office has it.
pub record IsUpgrade (version : Version) (text : List ℕ) (old : Trees) (new : Database) : Type 0 where
  pub rows : (table : OfficeTable) → place_of table < count_of version → table ≢ meta
      → rows_in new.trees table ≡ rows_in old table
  pub tables : tables_in new.trees ≡ tables_in old
  pub told : (site : List ℕ) → HasMeta version site old → HasMeta V3 site new.trees
  pub holds : HoldsSiteText text new.trees
  pub office : IsOffice new
