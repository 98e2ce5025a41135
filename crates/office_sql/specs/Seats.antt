-- What the setting of a seat's row finds where there is none.
use Rattle.std.specs.Prelude.{◌≡◌, ℕ, List, None}
use Rattle.sqlite.specs.Effect.{Database}
use Rattle.office_tables.specs.Prelude.{seat_at}
use Rattle.office_sql.specs.Change.{SqlStays}
use Rattle.office_sql.specs.Tables.{IsOffice, tables_in}

-- no seat has the name, and no row is changed
pub record LacksSeat (name : List ℕ) (old new : Database) : Type 0 where
  pub office : IsOffice new
  pub stays : SqlStays old new
  pub same : tables_in new.trees ≡ tables_in old.trees
  pub lacks : seat_at name (tables_in new.trees) ≡ None
