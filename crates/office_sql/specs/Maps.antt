-- What becomes of the table of maps.
use Rattle.std.specs.Prelude.{◌≡◌, ◌∷◌, ℕ, pos, None}
use Rattle.sqlite.specs.declared.types.Value.TheVariants.{Null}
use Rattle.sqlite.specs.Effect.{Database}
use Rattle.sqlite_rules.specs.Edit.{next_rowid}
use Rattle.office_tables.specs.declared.rows.NewMap.{NewMap}
use Rattle.office_tables.specs.declared.rows.OfCustomer.{OfCustomer}
use Rattle.office_tables.specs.Prelude.{map_at, with_map}
use Rattle.office_sql.specs.Change.{SqlAdds}
use Rattle.office_sql.specs.OfficeTable.{maps}
use Rattle.office_sql.specs.Rows.{map_columns}
use Rattle.office_sql.specs.Schema.{rows_in}
use Rattle.office_sql.specs.Tables.{IsOffice, tables_in}

-- the map is there, under a number that none had
pub record GainsMap (m : OfCustomer NewMap) (id : ℕ) (old new : Database) : Type 0 where
  pub office : IsOffice new
  pub free : map_at id (tables_in old.trees) ≡ None
  pub made : tables_in new.trees ≡ with_map (record { id = id; body = m.row.body }) (tables_in old.trees)
  pub number : next_rowid (rows_in old.trees maps) ≡ pos id
  pub row : SqlAdds maps (Null ∷ map_columns m) old new
