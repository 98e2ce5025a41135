-- What the table meta tells of a store.
use Rattle.std.specs.Prelude.{◌≡◌, ◌≢◌, ℕ, length, List, [], ◌∷◌, Option, Some, None, map, IsPermutation}
use Rattle.std.specs.List.{AllByRecursion}
use Rattle.sqlite.specs.Order.{Row, column, bytes}
use Rattle.sqlite.specs.Tree.{Trees}
use Rattle.store_inspection.specs.declared.meta.Meta.{Meta}
use Rattle.store_inspection.specs.declared.version.Version.{Version}
use Rattle.store_inspection.specs.declared.version.Version.TheVariants.{V3}
use Rattle.sha2.specs.Sha256.{sha256}
use Rattle.store_inspection.specs.SiteTexts.{HoldsSiteText}
use Rattle.store_inspection.specs.Versions.{number_of_version}
use Rattle.office_sql.specs.Prelude.{rows_in, meta, number_in_cell, IsBlob, IsOffice, office_over}

-- meta: id, schema, site. The id is the rowid
abbrev pub meta_in : Row → Meta
meta_in r = record { id = number_in_cell (column r 0); schema = number_in_cell (column r 2); site = bytes (column r 3) }

-- the rows of meta in a database
abbrev pub metas_in : Trees → List Meta
metas_in db = map meta_in (rows_in db meta)

-- what a row of meta says that shows the id, the schema and the site alone
abbrev pub meta_of : Row → Meta
meta_of r = meta_in (column r 0 ∷ r)

-- the rows show meta, in some order, and their sites are blobs
pub record ShowMeta (db : Trees) (rows : List Row) : Type 0 where
  pub metas : IsPermutation (metas_in db) (map meta_of rows)
  pub blobs : AllByRecursion (IsBlob 2) rows

-- the row by which a store of a version tells of itself
abbrev pub meta_of_version : Version → List ℕ → Meta
meta_of_version version site = record { id = 1; schema = number_of_version version; site = site }

-- the store has one row of meta, of this version and this site
abbrev pub HasMeta : Version → List ℕ → Trees → Type 0
HasMeta version site db = metas_in db ≡ meta_of_version version site ∷ []

-- the store tells of this text of its site: it holds the text, and meta its SHA-256
pub record HoldsSite (text : List ℕ) (db : Trees) : Type 0 where
  pub holds : HoldsSiteText text db
  pub named : HasMeta V3 (sha256 text) db

-- the store tells of a text that has this SHA-256
pub record IsOurs (site : List ℕ) (db : Trees) : Type 0 where
  pub text : List ℕ
  pub tells : HoldsSite text db
  pub named : sha256 text ≡ site

-- a store of the site: a database of the office, with its row of meta and its text
abbrev pub IsOfSite : List ℕ → Trees → Type 0
IsOfSite site db = IsOffice (office_over db) × IsOurs site db

-- whatever the site, which is 32 bytes, they aren't the one row of its store of this version
abbrev pub TellNoSite : Version → List Meta → Type 0
TellNoSite version metas =
    (site : List ℕ) → length site ≡ 32 → metas ≢ meta_of_version version site ∷ []

-- what was read of them: the one row, or none where they tell no site
abbrev pub IsMetaOf : List Meta → Option Meta → Type 0
IsMetaOf metas (Some row) = metas ≡ row ∷ []
IsMetaOf metas None = (version : Version) → TellNoSite version metas
