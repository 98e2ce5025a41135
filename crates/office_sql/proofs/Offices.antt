-- A database of the office in which no table was changed, or one, or two.
use Rattle.std.proofs.Common.{◌≡◌, ◌≢◌, ◌==◌, List, cond, inl, inr, sym, ap, ap₂, ◌∙◌, subst, eqb-true}
use Rattle.std.proofs.lemmas.Bool.{cases_Bool, eqb-false}
use Rattle.office_sql.proofs.Kit.{Database, IsDatabase, Row, Trees}
use Rattle.office_sql.specs.Prelude.{SameBut, OfficeTable, meta, orders, given, order_starts, given_starts, site_texts, order_in_row, given_in_row}
use Rattle.office_sql.specs.Prelude.{is_validity_of_order, is_validity_of_given, office_schema, rows_in, tree_of, AreRowsOf, HaveOneValidityRow, IsOffice}
use Rattle.office_sql.specs.Prelude.{tables_in, tables_of, told_in}
use Rattle.office_sql.proofs.Names.{same_table}

-- no change leaves what the database tells of itself
pub told_same : (old new : Trees) → ((table : OfficeTable) → rows_in new table ≡ rows_in old table) → told_in new ≡ told_in old
told_same old new same = ap₂ (λ first last. record { meta = first; site_texts = last }) (same meta) (same site_texts)

-- a change of another table leaves what the database tells of itself
pub told_stays : (changed : OfficeTable) (old new : Trees) → meta ≢ changed → site_texts ≢ changed → SameBut changed old new → told_in new ≡ told_in old
told_stays changed old new first last others =
    ap₂ (λ first last. record { meta = first; site_texts = last }) (others meta first) (others site_texts last)

-- the rows of all tables, with other rows in one of them
abbrev pub with_rows : OfficeTable → List Row → (OfficeTable → List Row) → OfficeTable → List Row
with_rows changed rows all table = cond (tree_of table == tree_of changed) rows (all table)

-- a table's rows are its own where it was changed, and else as they were
pub rows_are : (changed : OfficeTable) (old new : Trees) → SameBut changed old new → rows_in new ≡ with_rows changed (rows_in new changed) (rows_in old)
rows_are changed old new others i table = each table i
  where
    each : (table : OfficeTable) → rows_in new table ≡ with_rows changed (rows_in new changed) (rows_in old) table
    each table = elim (cases_Bool (tree_of table == tree_of changed)) [
      | inl is ↦ rw is (ap new (eqb-true _ _ is))
      | inr isnt ↦ rw isnt (others table (λ same. eqb-false _ _ isnt (ap tree_of same)))
    ]

-- the rows of all tables are as they are to be, if those of the changed table are
pub rows_kept : (changed : OfficeTable) (rows : List Row) (all : OfficeTable → List Row) → AreRowsOf changed rows
    → ((table : OfficeTable) → AreRowsOf table (all table))
    → (table : OfficeTable) → AreRowsOf table (with_rows changed rows all table)
rows_kept changed rows all are others table = elim (cases_Bool (tree_of table == tree_of changed)) [
  | inl is ↦ rw is (subst (λ t. AreRowsOf t rows) (sym (same_table table changed (eqb-true _ _ is))) are)
  | inr isnt ↦ rw isnt (others table)
]

-- each order and each record has its beginning of validity told
abbrev pub HaveBothValidityRows : (OfficeTable → List Row) → Type 0
HaveBothValidityRows rows =
    HaveOneValidityRow is_validity_of_order order_in_row (rows orders) (rows order_starts)
    × HaveOneValidityRow is_validity_of_given given_in_row (rows given) (rows given_starts)

pub both_validity_rows : (db : Database) → IsOffice db → HaveBothValidityRows (rows_in db.trees)
both_validity_rows db office = (office.order_validity, office.given_validity)

module _ (old new : Database) (office : IsOffice old) (schema : new.schema ≡ office_schema) (sound : IsDatabase new) where
  -- the office is that of its rows
  of_rows : (rows : OfficeTable → List Row) → rows_in new.trees ≡ rows
      → ((table : OfficeTable) → AreRowsOf table (rows table)) → HaveBothValidityRows rows
      → IsOffice new × (tables_in new.trees ≡ tables_of rows)
  of_rows rows same are validity =
      let both = subst HaveBothValidityRows (sym same) validity in (
        record {
          schema = schema;
          sound = sound;
          rows = subst (λ (all : OfficeTable → List Row).
              (table : OfficeTable) → AreRowsOf table (all table)) (sym same) are;
          order_validity = both.0;
          given_validity = both.1;
        },
        ap tables_of same,
      )

  -- where no table changes, it is as it was
  pub office_stays : ((table : OfficeTable) → rows_in new.trees table ≡ rows_in old.trees table)
      → IsOffice new × (tables_in new.trees ≡ tables_in old.trees)
  office_stays same = of_rows (rows_in old.trees) (λ i table. same table i) office.rows (both_validity_rows old office)

  -- where one does, it is that of the rows that the table has
  pub table_changed : (changed : OfficeTable) → SameBut changed old.trees new.trees
      → AreRowsOf changed (rows_in new.trees changed)
      → HaveBothValidityRows (with_rows changed (rows_in new.trees changed) (rows_in old.trees))
      → IsOffice new × (tables_in new.trees ≡ tables_of (with_rows changed (rows_in new.trees changed) (rows_in old.trees)))
  table_changed changed others are =
      let rows = rows_in new.trees changed in
      of_rows (with_rows changed rows (rows_in old.trees))
      (rows_are changed old.trees new.trees others)
      (rows_kept changed rows (rows_in old.trees) are office.rows)

  -- where a table changes and then its validity rows, it is that of both
  pub both_changed : (changed side : OfficeTable) (mid : Trees) → SameBut changed old.trees mid → SameBut side mid new.trees
      → AreRowsOf changed (rows_in mid changed) → AreRowsOf side (rows_in new.trees side)
      → HaveBothValidityRows (with_rows side (rows_in new.trees side) (with_rows changed (rows_in mid changed) (rows_in old.trees)))
      → IsOffice new
      × (tables_in new.trees
      ≡ tables_of (with_rows side (rows_in new.trees side) (with_rows changed (rows_in mid changed) (rows_in old.trees))))
  both_changed changed side mid first second are its =
      let rows = rows_in mid changed in
      let validities = rows_in new.trees side in
      of_rows (with_rows side validities (with_rows changed rows (rows_in old.trees)))
      (rows_are side mid new.trees second ∙ ap (with_rows side validities) (rows_are changed old.trees mid first))
      (rows_kept side validities (with_rows changed rows (rows_in old.trees)) its
      (rows_kept changed rows (rows_in old.trees) are office.rows))
