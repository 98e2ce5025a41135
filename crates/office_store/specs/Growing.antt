-- How a store comes to hold the text of a site that grew, in one transaction.
use Rattle.std.specs.Prelude.{◌≡◌, ◌≢◌, ℕ, List, Ok}
use Rattle.sqlite.specs.Tree.{Trees}
use Rattle.sqlite.specs.Effect.{Database}
use Rattle.office_sql.specs.Prelude.{OfficeTable, meta, site_texts, rows_in, IsOffice, tables_in}
use Rattle.store_inspection.specs.Meta.{HoldsSite}
use Rattle.site_core.specs.Prelude.{IsGrowth, SiteValue, site_read}

-- each row but the text and that of meta stands, and the tables say what they said; the store tells
-- of the text; and all is as the office has it
pub record IsGrown (text : List ℕ) (old : Trees) (new : Database) : Type 0 where
  pub rows : (table : OfficeTable) → table ≢ meta → table ≢ site_texts → rows_in new.trees table ≡ rows_in old table
  pub tables : tables_in new.trees ≡ tables_in old
  pub tells : HoldsSite text new.trees
  pub office : IsOffice new

-- the site is a growth of the one that a text is
abbrev pub IsGrownFrom : List ℕ → SiteValue → Type 0
IsGrownFrom text site = (older : SiteValue) × (site_read text ≡ Ok older) × IsGrowth older site
