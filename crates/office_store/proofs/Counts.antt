-- How many tables a version has, and what becomes of the first tables of a schema.
use Rattle.std.proofs.Common.{◌≡◌, ℕ, ◌≢◌, ◌<◌, arith, refl, subst, lt-ltb}
use Rattle.office_sql.proofs.Kit.{Trees}
use Rattle.office_tables.specs.Prelude.{Tables}
use Rattle.office_sql.proofs.Inserting.{OthersStay}
use Rattle.office_sql.proofs.Names.{first_by_name, same_table}
use Rattle.office_sql.specs.Prelude.{OfficeTable, site_texts, place_of, rows_in, tables_of, tree_of}
use Rattle.office_store.proofs.Types.{Version, V1a, V3}
use Rattle.store_inspection.specs.Prelude.{KeepsFirstBut, count_of, first_tables, rows_at}

-- what the tables of a version say: those that it hasn't say nothing
abbrev pub tables_at : Version → Trees → Tables
tables_at version db = tables_of (rows_at version db)

-- the rows of a table that a version has are those of the database
pub at_first : (version : Version) (db : Trees) (table : OfficeTable) → place_of table < count_of version → rows_at version db table ≡ rows_in db table
at_first version db table low = rw (lt-ltb (place_of table) (count_of version) low) refl

-- each version has the first eight tables
pub first_eight : (version : Version) → 7 < count_of version
first_eight V1a = omega arith
first_eight _ = omega arith

-- a version before the third hasn't the table of the site's text
pub not_site_texts : (version : Version) → version ≢ V3 → (table : OfficeTable) → place_of table < count_of version → table ≢ site_texts
not_site_texts version earlier table low is = omega (arith, at_most version earlier, subst (λ t. place_of t < count_of version) is low)
  where
    at_most : (version : Version) → version ≢ V3 → count_of version < 11
    at_most V3 earlier = absurd (earlier refl)
    at_most _ earlier = omega arith

-- where each of the first tables but one has the rows that it had
pub first_but : (count indexes : ℕ) (changed : OfficeTable) (old new : Trees)
    → OthersStay (first_tables count indexes) changed old new → KeepsFirstBut changed count old new
first_but count indexes changed old new others table low other =
    first_by_name (λ t. t.tree ≢ tree_of changed → new t.tree ≡ old t.tree) count others table low (λ same. other (same_table table changed same))
