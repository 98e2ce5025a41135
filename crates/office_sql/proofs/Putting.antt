-- A row of a table beside which no validity rows stand: one more, or one in place of that with its key.
use Rattle.std.proofs.Common.{◌≡◌, ◌≢◌, ◌∷◌, ℕ, List, Bool, None, find, map, is_eq, sym, ap, subst, ◌∙◌}
use Rattle.std.specs.List.{AllByRecursion}
use Rattle.sqlite_trees.proofs.ListLemmas.{all_weaker}
use Rattle.office_tables.specs.Prelude.{with_row}
use Rattle.office_sql.proofs.Kit.{Int, Row, Database, IsDatabase, next_rowid}
use Rattle.office_sql.specs.Prelude.{OfficeTable, meta, site_texts, SameBut, SqlAdds, IsOffice, office_schema, rows_in, tables_in, tables_of, told_in}
use Rattle.office_sql.proofs.Finding.{unkeyed}
use Rattle.office_sql.proofs.Keyed.{Apart}
use Rattle.office_sql.proofs.Offices.{HaveBothValidityRows, both_validity_rows, table_changed, told_stays, with_rows}
use Rattle.office_sql.proofs.Replacing.{SetsOne}
use Rattle.office_sql.proofs.TableOf.{TableOf, AreRowsAs, in_order}
use Rattle.office_sql.proofs.TableRows.{row_added}

-- no validity rows stand beside the table, and the database doesn't tell of itself in it
pub record IsAlone {A : Type 0} (t : TableOf A) : Type 0 where
  pub validity : (rows : List Row) (all : OfficeTable → List Row) → HaveBothValidityRows all → HaveBothValidityRows (with_rows t.name rows all)
  pub told : (meta ≢ t.name) × (site_texts ≢ t.name)

-- the value has a row, in place of that with its key if there was one, and no other table changed
pub record HasPut {A : Type 0} (t : TableOf A) (x : A) (old new : Database) : Type 0 where
  pub office : IsOffice new
  pub tables : tables_in new.trees ≡ tables_of (with_rows t.name (rows_in new.trees t.name) (rows_in old.trees))
  pub placed_is : in_order t (rows_in new.trees t.name) ≡ with_row t.cmp x (in_order t (rows_in old.trees t.name))
  pub told : told_in new.trees ≡ told_in old.trees

-- a key that isn't found is apart from that of each row
pub unfound_apart : {A : Type 0} (t : TableOf A) (x : A) (p : A → Bool) → ((y : A) → is_eq (t.cmp x y) ≡ p y) → (rows : List Row)
    → find p (in_order t rows) ≡ None → AllByRecursion (Apart t.cmp t.total x) (map t.value rows)
unfound_apart t x p tied rows none =
    all_weaker _ (Apart t.cmp t.total x) (λ y other. tied y ∙ other) (map t.value rows) (unkeyed t.cmp t.total p (map t.value rows) none)

module _ {A : Type 0} (t : TableOf A) (alone : IsAlone t) (x : A) (old new : Database) (office : IsOffice old) where
  has_put : new.schema ≡ office_schema → IsDatabase new → SameBut t.name old.trees new.trees → AreRowsAs t (rows_in new.trees t.name)
      → in_order t (rows_in new.trees t.name) ≡ with_row t.cmp x (in_order t (rows_in old.trees t.name)) → HasPut t x old new
  has_put schema sound others are placed_is =
      let it = table_changed old new office schema sound t.name others (t.for_office _ are)
      (alone.validity _ (rows_in old.trees) (both_validity_rows old office)) in
      record { office = it.0; tables = it.1; placed_is = placed_is; told = told_stays t.name old.trees new.trees alone.told.0 alone.told.1 others }

  -- a row more, whose key no row has
  pub row_put : (columns : Row) → SqlAdds t.name columns old new → t.Typed (Int (next_rowid (rows_in old.trees t.name)) ∷ columns)
      → t.value (Int (next_rowid (rows_in old.trees t.name)) ∷ columns) ≡ x
      → AllByRecursion (Apart t.cmp t.total x) (map t.value (rows_in old.trees t.name)) → HasPut t x old new
  row_put columns adds typed is apart =
      let rows = rows_in old.trees t.name in
      let it = row_added t columns rows (t.from_office rows (office.rows t.name)) typed
      (subst (λ y. AllByRecursion (Apart t.cmp t.total y) (map t.value rows)) (sym is) apart) in
      has_put adds.schema adds.sound adds.others (subst (AreRowsAs t) (sym adds.row) it.0)
      (ap (in_order t) adds.row ∙ it.1 ∙ ap (λ y. with_row t.cmp y (in_order t rows)) is)

  -- a row in place of that with its key
  pub row_set : (p : A → Bool) (columns : Row → Row) (count : ℕ) (one : SetsOne t p columns old new count)
      → t.value (Int one.id ∷ columns one.was) ≡ x → HasPut t x old new
  row_set p columns count one is =
      has_put one.replaced.schema one.replaced.sound one.replaced.others one.rows
      (one.placed_is ∙ ap (λ y. with_row t.cmp y (in_order t (rows_in old.trees t.name))) is)
