-- A database without tables has nothing, one of a version with the number 1 no validity rows, and one without rows what
-- its version has without them.
use Rattle.std.proofs.Common.{◌≡◌, ◌<◌, ℕ, ◌≢◌, ◌==◌, Bool, true, false, true≢false, List, [], map, refl, ap, subst, subst₂, sym, ◌∙◌, inl, inr}
use Rattle.std.proofs.Common.{Ordering, arith}
use Rattle.std.specs.List.{list_any}
use Rattle.office_sql.proofs.Kit.{Row, Trees, IsShaped, IsOrdered, Shape, catalog_tree, version_tree, IsListed, IsSound, named_tree, sort_by, Index, Schema}
use Rattle.office_sql.proofs.Kit.{Database, Table, Has, some_from}
use Rattle.sqlite_trees.specs.declared.store.Shape.TheVariants as shape
use Rattle.office_tables.specs.Prelude.{no_rows, seat_cmp, order_cmp, map_cmp, link_cmp, device_cmp, given_cmp, entry_cmp}
use Rattle.office_sql.proofs.Names.{tree_low}
use Rattle.office_sql.specs.Prelude.{OfficeTable, meta, seats, maps, links, orders, devices, given, ledger, order_starts, given_starts, site_texts, no_schema}
use Rattle.office_sql.specs.Prelude.{place_of, rows_in, tree_of, seat_in_row, map_in_row, link_in_row, order_in_row, device_in_row, given_in_row, entry_in_row}
use Rattle.office_sql.specs.Prelude.{with_order_not_before, with_given_not_before, AreOfficeRows, AreRows, HaveOneValidityRow}
use Rattle.office_sql.specs.Prelude.{is_validity_of_given, is_validity_of_order}
use Rattle.office_store.proofs.Types.{Version, V1a, V1b, V1, V2, V3}
use Rattle.office_store.specs.Prelude.{HasNothing}
use Rattle.office_store.proofs.Counts.{at_first, first_eight, tables_at}
use Rattle.store_inspection.specs.Prelude.{HasOneValidityRowEach, AreValidityRowsFound, HasNoValidityRow, meta_in, number_of_version, rows_at, schema_of}

no_row : {A : Type 0} (Typed : Row → Type 0) (cmp : A → A → Ordering) (value : Row → A) (rows : List Row) → rows ≡ [] → AreRows Typed cmp value rows
no_row Typed cmp value rows none = subst (AreRows Typed cmp value) (sym none) (record { rising = tt; numbered = tt; typed = tt; keyed = tt })

-- the first version's tables without a row, but for that by which a store tells of itself
abbrev pub HasNoRow : Trees → Type 0
HasNoRow db = (table : OfficeTable) → place_of table < 8 → table ≢ meta → rows_in db table ≡ []

-- trees without a row have the office's rows
pub no_office_rows : (db : Trees) → HasNoRow db → AreOfficeRows db
no_office_rows db none meta = tt
no_office_rows db none order_starts = tt
no_office_rows db none given_starts = tt
no_office_rows db none site_texts = tt
no_office_rows db none table = no_row _ _ _ _ (none table (omega arith) (λ e. cc))

-- they are the tables of an office without a row, also of a version
pub no_rows_at : (version : Version) (db : Trees) → HasNoRow db → tables_at version db ≡ no_rows
no_rows_at version db none i = record {
  seats = sort_by seat_cmp (map seat_in_row (gone seats (omega arith) (λ e. cc) i));
  orders = map (with_order_not_before (rows_at version db order_starts)) (sort_by order_cmp (map order_in_row (gone orders (omega arith) (λ e. cc) i)));
  devices = sort_by device_cmp (map device_in_row (gone devices (omega arith) (λ e. cc) i));
  given = map (with_given_not_before (rows_at version db given_starts)) (sort_by given_cmp (map given_in_row (gone given (omega arith) (λ e. cc) i)));
  maps = sort_by map_cmp (map map_in_row (gone maps (omega arith) (λ e. cc) i));
  links = sort_by link_cmp (map link_in_row (gone links (omega arith) (λ e. cc) i));
  ledger = sort_by entry_cmp (map entry_in_row (gone ledger (omega arith) (λ e. cc) i));
}
  where
    gone : (table : OfficeTable) → place_of table < 8 → table ≢ meta → rows_at version db table ≡ []
    gone table low other = at_first version db table (omega (arith, low, first_eight version)) ∙ none table low other

-- trees in which no table has a row have nothing, what the store tells of itself among it
pub has_nothing : (db : Trees) → ((table : OfficeTable) → rows_in db table ≡ []) → HasNothing db
has_nothing db none = record { tables = no_rows_at V3 db (λ table _ _. none table); silent = ap (map meta_in) (none meta) }

-- trees without rows have no validity rows that lack
pub no_validity_rows : {A : Type 0} (is_for : A → Row → Bool) (value : Row → A) (rows validities : List Row)
    → rows ≡ [] → validities ≡ [] → HaveOneValidityRow is_for value rows validities
no_validity_rows is_for value rows validities no_row none = subst₂ (HaveOneValidityRow is_for value) (sym no_row) (sym none)
    (record { rising = tt; numbered = tt; typed = tt; one = tt; for_one = tt })

-- in tables without a row beginnings of validity are as each version has them
pub none_found : (version : Version) (db : Database) → ((table : OfficeTable) → rows_in db.trees table ≡ []) → AreValidityRowsFound version db
none_found version db none = found version
  where
    all : HasOneValidityRowEach db.trees
    all = record {
      orders = no_validity_rows is_validity_of_order order_in_row _ _ (none orders) (none order_starts);
      given = no_validity_rows is_validity_of_given given_in_row _ _ (none given) (none given_starts);
    }

    found : (version : Version) → AreValidityRowsFound version db
    found V2 = λ _. all
    found V3 = λ _. all
    found _ = (none order_starts, none given_starts)

module _ (schema : Schema) (shapes : ℕ → Shape) (reals : ℕ → ℕ) (trees : Trees)
    (sound : IsSound schema trees) (listed : IsListed (trees catalog_tree) shapes reals) (ordered : IsOrdered shapes trees) where
  rising : IsShaped shape.Table (trees catalog_tree)
  rising = subst (λ s. IsShaped s (trees catalog_tree)) listed.itself.0 (ordered catalog_tree)

  -- a tree that isn't listed has no rows
  pub empty_at : (t : ℕ) → t ≢ catalog_tree → t ≢ version_tree
      → list_any (λ (x : Table). x.tree == t) schema.tables ≡ false
      → list_any (λ (x : Index). x.tree == t) schema.indexes ≡ false → schema.views ≡ []
      → trees t ≡ []
  empty_at t other apart no_table no_index no_view = elim (named_tree listed rising.0 sound.lists.listed t other apart) [
    | inl table ↦ absurd (true≢false (sym (some_from (λ (x : Table). x.tree == t) schema.tables table.0 table.1 (itself table.0.tree table.2)) ∙ no_table))
    | inr (inl index) ↦ absurd (true≢false (sym (some_from (λ (x : Index).
        x.tree == t) schema.indexes index.0 index.1 (itself index.0.tree index.2)) ∙ no_index))
    | inr (inr (inl w)) ↦ absurd (subst (λ l. Has l w.0) no_view w.1)
    | inr (inr (inr none)) ↦ subst (λ s. IsShaped s (trees t)) none (ordered t)
  ]
    where
      itself : (n : ℕ) → n ≡ t → (n == t) ≡ true
      itself n e = grind arith

module _ (shapes : ℕ → Shape) (reals : ℕ → ℕ) (trees : Trees) (listed : IsListed (trees catalog_tree) shapes reals) (ordered : IsOrdered shapes trees) where
  -- trees of which none is listed have nothing
  pub nothing_found : IsSound no_schema trees → HasNothing trees
  nothing_found sound =
      has_nothing trees (λ table.
      empty_at no_schema shapes reals trees sound listed ordered (tree_of table)
      (λ e. omega (arith, tree_low table, e)) (λ e. omega (arith, tree_low table, e)) refl refl refl)

  -- the versions with the number 1 list no validity rows
  v1a_without_rows : IsSound (schema_of V1a) trees → HasNoValidityRow trees
  v1a_without_rows sound = (
    empty_at (schema_of V1a) shapes reals trees sound listed ordered (tree_of order_starts) (λ e. cc) (λ e. cc) refl refl refl,
    empty_at (schema_of V1a) shapes reals trees sound listed ordered (tree_of given_starts) (λ e. cc) (λ e. cc) refl refl refl,
  )

  v1b_without_rows : IsSound (schema_of V1b) trees → HasNoValidityRow trees
  v1b_without_rows sound = (
    empty_at (schema_of V1b) shapes reals trees sound listed ordered (tree_of order_starts) (λ e. cc) (λ e. cc) refl refl refl,
    empty_at (schema_of V1b) shapes reals trees sound listed ordered (tree_of given_starts) (λ e. cc) (λ e. cc) refl refl refl,
  )

  v1_without_rows : IsSound (schema_of V1) trees → HasNoValidityRow trees
  v1_without_rows sound = (
    empty_at (schema_of V1) shapes reals trees sound listed ordered (tree_of order_starts) (λ e. cc) (λ e. cc) refl refl refl,
    empty_at (schema_of V1) shapes reals trees sound listed ordered (tree_of given_starts) (λ e. cc) (λ e. cc) refl refl refl,
  )

  pub no_validity_found : (version : Version) → number_of_version version ≡ 1 → IsSound (schema_of version) trees → HasNoValidityRow trees
  no_validity_found V2 one sound = absurd (omega (arith, one))
  no_validity_found V3 one sound = absurd (omega (arith, one))
  no_validity_found V1a one sound = v1a_without_rows sound
  no_validity_found V1b one sound = v1b_without_rows sound
  no_validity_found V1 one sound = v1_without_rows sound
