-- A sound database of a schema that begins with the first version's tables, whatever the keys of `given`
-- beside that of its serial numbers, whose trees are in order, has the office's rows,
-- if no number of a map or of an entry is below zero. One lemma for each table.
use Rattle.std.proofs.Common.{◌≡◌, ℕ, List, Ordering, true, false, [], ◌∷◌, ◌++◌, refl, sym, ap, subst, ◌∙◌, inl, inr, is_eq, Less, IsTrue}
use Rattle.std.specs.List.{AllByRecursion}
use Rattle.text_core.proofs.Kit.{and_parts, not-true}
use Rattle.office_sql.proofs.Kit.{Row, column, IsShaped, IsOrdered, is_int, Trees, rowid, Shape, catalog_tree, IsListed, Index, Schema, Table, Datatype}
use Rattle.office_sql.proofs.Kit.{NotNull, Unique, clashes, plain, IsSound, table_shape, Has, agree, all_both, all_has, ascending-map, passes}
use Rattle.sqlite_schema.specs.declared.schema.Constraint.{Constraint}
use Rattle.sqlite.specs.Order.{value_cmp}
use Rattle.sqlite_trees.specs.declared.store.Shape.TheVariants as shape
use Rattle.sqlite_trees.proofs.ListLemmas.{all_weaker}
use Rattle.office_tables.specs.Prelude.{seat_cmp, order_cmp, map_cmp, link_cmp, device_cmp, given_cmp, entry_cmp}
use Rattle.office_sql.specs.Prelude.{meta, seats, maps, links, orders, devices, given, ledger, seat_table, map_table, link_table, orders_table, device_table}
use Rattle.office_sql.specs.Prelude.{given_table, ledger_table, rows_in, tree_of, seat_in_row, map_in_row, link_in_row, order_in_row}
use Rattle.office_sql.specs.Prelude.{device_in_row, given_in_row}
use Rattle.office_sql.specs.Prelude.{entry_in_row, AreOfficeRows, AreRows, IsText, IsWhole, IsSeatRow, IsMapRow, IsLinkRow, IsOrderRow, IsDeviceRow, IsGivenRow}
use Rattle.office_sql.specs.Prelude.{IsEntryRow}
use Rattle.store_inspection.specs.Prelude.{HasWhole, IsNotBelow, given_keyed, schema_keyed}
use Rattle.office_sql.proofs.Kept.{narrowed}
use Rattle.office_sql.proofs.MapValues.{wholes_cmp}
use Rattle.store_inspection.proofs.FoundRows.{text_at, blob_at, int_at, text_if_at, whole_of, texts_tie, blobs_tie, wholes_tie, then_ties, entry_ties}
use Rattle.store_inspection.proofs.FoundRows.{last_ties, rows_found}

-- ids that are whole numbers are in the order of the rowids
maps_apart : (a b : Row) → IsMapRow a → IsMapRow b → value_cmp (rowid a) (rowid b) ≡ Less → is_eq (map_cmp (map_in_row a) (map_in_row b)) ≡ false
maps_apart a b ka kb low = ap is_eq (sym (wholes_cmp (column a 0) (column b 0) ka.0 kb.0) ∙ low)

-- the first version's tables and indexes, and more
abbrev pub grown : List ℕ → List ℕ → List ℕ → List Table → List Index → Schema
grown one two three tables indexes =
    record { tables = (schema_keyed one two three).tables ++ tables; indexes = (schema_keyed one two three).indexes ++ indexes; views = [] }

-- the key of the serial numbers of `given` is the first or the second
module _ (one two three : List ℕ) (keyed : (P : List ℕ → Type 0) → P one → P two → P (1 ∷ 2 ∷ [])) (more_tables : List Table)
    (more_indexes : List Index) (shapes : ℕ → Shape) (reals : ℕ → ℕ) (trees : Trees)
    (sound : IsSound (grown one two three more_tables more_indexes) trees) (listed : IsListed (trees catalog_tree) shapes reals)
    (ordered : IsOrdered shapes trees) where
  abbrev schema : Schema
  schema = grown one two three more_tables more_indexes

  rising : IsShaped shape.Table (trees catalog_tree)
  rising = subst (λ s. IsShaped s (trees catalog_tree)) listed.itself.0 (ordered catalog_tree)

  pub shaped : (t : Table) → Has schema.tables t → IsShaped shape.Table (trees t.tree)
  shaped t h = subst (λ s. IsShaped s (trees t.tree)) (table_shape listed rising.0 sound.lists.listed t h).0 (ordered t.tree)

  -- the rows of a table are of a type, and no two have one key
  pub found_in : {A : Type 0} (t : Table) (places : List ℕ) (Typed : Row → Type 0) (cmp : A → A → Ordering) (value : Row → A) → Has schema.tables t
      → ((a b : Row) → Typed a → Typed b → is_eq (cmp (value a) (value b)) ≡ agree plain places b places a)
      → ((r : Row) → passes Datatype schema trees t r ≡ true → passes NotNull schema trees t r ≡ true → Typed r)
      → ((r : Row) → passes Unique schema trees t r ≡ true → clashes plain places (trees t.tree) r ≡ false) → AreRows Typed cmp value (trees t.tree)
  found_in t places Typed cmp value has ties typed free =
      let rows = trees t.tree in
      let keeps = λ (rule : Constraint). all_has (λ (s : Table). AllByRecursion (λ r. passes rule schema trees s r ≡ true) (trees s.tree))
      schema.tables t (sound.obeys.rules rule) has in
      rows_found places Typed cmp value ties rows (shaped t has) (all_both _ _ Typed typed rows (keeps Datatype) (keeps NotNull))
      (all_weaker _ (λ r. clashes plain places rows r ≡ false) free rows (keeps Unique))

  seats_found : AreRows IsSeatRow seat_cmp seat_in_row (rows_in trees seats)
  seats_found = found_in seat_table (1 ∷ []) IsSeatRow seat_cmp seat_in_row (inr (inl refl))
      (λ a b e f. last_ties _ _ (texts_tie (column a 1) (column b 1) e f))
      (λ r d n. text_at schema trees seat_table r d n 0 (refl, refl, refl) (refl, refl)) (λ r h. not-true _ (and_parts _ _ h).0)

  links_found : AreRows IsLinkRow link_cmp link_in_row (rows_in trees links)
  links_found = found_in link_table (1 ∷ 2 ∷ []) IsLinkRow link_cmp link_in_row (inr (inr (inr (inl refl))))
      (λ a b e f. then_ties _ _ _ _ (texts_tie (column a 1) (column b 1) e.0 f.0) (last_ties _ _ (blobs_tie (column a 2) (column b 2) e.1 f.1)))
      (λ r d n. (
        text_at schema trees link_table r d n 0 (refl, refl, refl) (refl, refl),
        blob_at schema trees link_table r d n 1 (refl, refl, refl) (refl, refl),
      )) (λ r h. not-true _ (and_parts _ _ h).0)

  orders_found : AreRows IsOrderRow order_cmp order_in_row (rows_in trees orders)
  orders_found = found_in orders_table (1 ∷ 2 ∷ []) IsOrderRow order_cmp order_in_row (inr (inr (inr (inr (inl refl)))))
      (λ a b e f. then_ties _ _ _ _ (texts_tie (column a 1) (column b 1) e.0 f.0) (last_ties _ _ (texts_tie (column a 2) (column b 2) e.1 f.1)))
      (λ r d n. (
        text_at schema trees orders_table r d n 0 (refl, refl, refl) (refl, refl),
        text_at schema trees orders_table r d n 1 (refl, refl, refl) (refl, refl),
        (and_parts _ _ d).0,
      )) (λ r h. not-true _ (and_parts _ _ h).0)

  devices_found : AreRows IsDeviceRow device_cmp device_in_row (rows_in trees devices)
  devices_found = found_in device_table (1 ∷ 2 ∷ []) IsDeviceRow device_cmp device_in_row (inr (inr (inr (inr (inr (inl refl))))))
      (λ a b e f. then_ties _ _ _ _ (texts_tie (column a 1) (column b 1) e.0 f.0) (last_ties _ _ (texts_tie (column a 2) (column b 2) e.1 f.1)))
      (λ r d n. (
        text_at schema trees device_table r d n 0 (refl, refl, refl) (refl, refl),
        text_at schema trees device_table r d n 1 (refl, refl, refl) (refl, refl),
        text_at schema trees device_table r d n 2 (refl, refl, refl) (refl, refl),
      )) (λ r h. not-true _ (and_parts _ _ h).0)

  given_found : AreRows IsGivenRow given_cmp given_in_row (rows_in trees given)
  given_found = found_in (given_keyed one two three) (1 ∷ 2 ∷ []) IsGivenRow given_cmp given_in_row (inr (inr (inr (inr (inr (inr (inl refl)))))))
      (λ a b e f. then_ties _ _ _ _ (texts_tie (column a 1) (column b 1) e.0 f.0) (last_ties _ _ (texts_tie (column a 2) (column b 2) e.1 f.1)))
      (λ r d n. (
        text_at schema trees given_table r d n 0 (refl, refl, refl) (refl, refl),
        text_at schema trees given_table r d n 1 (refl, refl, refl) (refl, refl),
        blob_at schema trees given_table r d n 3 (refl, refl, refl) (refl, refl),
        text_if_at schema trees given_table r d 5 (refl, refl, refl),
      ))
      (λ r h. keyed (λ places. clashes plain places (trees (tree_of given)) r ≡ false) (not-true _ (and_parts _ _ h).0)
      (not-true _ (and_parts _ _ (and_parts _ _ h).1).0))

  module _ (whole : HasWhole trees) where
    maps_found : AreRows IsMapRow map_cmp map_in_row (rows_in trees maps)
    maps_found =
        let rows = rows_in trees maps in
        let s = shaped map_table (inr (inr (inl refl))) in
        let ids : AllByRecursion (IsWhole 0) rows = all_both _ (IsNotBelow 0) (IsWhole 0) (λ r i b. whole_of (column r 0) i b) rows s.1 whole.maps in
        let bodies : AllByRecursion (IsText 2) rows =
        all_both _ _ (IsText 2) (λ r d n.
        text_at schema trees map_table r d n 1 (refl, refl, refl) (refl, refl))
        rows (sound.obeys.rules Datatype).1.1.0 (sound.obeys.rules NotNull).1.1.0 in
        let typed : AllByRecursion IsMapRow rows = all_both (IsWhole 0) (IsText 2) IsMapRow (λ r i b. (i, b)) rows ids bodies in
        record {
          rising = s.0;
          numbered = s.1;
          typed = typed;
          keyed = ascending-map (λ a b. is_eq (map_cmp a b) ≡ false) map_in_row rows (narrowed IsMapRow _ _ maps_apart rows typed s.0);
        }

    ledger_found : AreRows IsEntryRow entry_cmp entry_in_row (rows_in trees ledger)
    ledger_found =
        let rows = rows_in trees ledger in
        let s = shaped ledger_table (inr (inr (inr (inr (inr (inr (inr (inl refl)))))))) in
        let datatypes = (sound.obeys.rules Datatype).1.1.1.1.1.1.1.0 in
        let required = (sound.obeys.rules NotNull).1.1.1.1.1.1.1.0 in
        let ids : AllByRecursion (IsWhole 0) rows = all_both _ (IsNotBelow 0) (IsWhole 0) (λ r i b. whole_of (column r 0) i b) rows s.1 whole.entries in
        let words : AllByRecursion (λ r. IsText 2 r × IsText 3 r) rows =
        all_both _ _ (λ r. IsText 2 r × IsText 3 r)
        (λ r d n. (
          text_at schema trees ledger_table r d n 1 (refl, refl, refl)
              (refl, refl),
          text_at schema trees ledger_table r d n 2 (refl, refl, refl)
              (refl, refl),
        )) rows datatypes required in
        let ints : AllByRecursion (λ r. IsTrue (is_int (column r 4))) rows =
        all_both _ _ (λ r. IsTrue (is_int (column r 4))) (λ r d n.
        int_at schema trees ledger_table r d n 3 (refl, refl, refl) (refl, refl))
        rows datatypes required in
        let numbers : AllByRecursion (IsWhole 4) rows = all_both _ (IsNotBelow 4) (IsWhole 4) (λ r i b. whole_of (column r 4) i b) rows ints whole.numbers in
        let half : AllByRecursion (λ r. IsWhole 0 r × IsText 2 r × IsText 3 r) rows =
        all_both (IsWhole 0) (λ r. IsText 2 r × IsText 3 r) (λ r. IsWhole 0 r × IsText 2 r
        × IsText 3 r) (λ r i t. (i, t.0, t.1)) rows ids words in
        rows_found (2 ∷ 3 ∷ 4 ∷ []) IsEntryRow entry_cmp entry_in_row
        (λ a b e f.
        entry_ties _ _ _ _ _ _ (texts_tie (column a 2) (column b 2) e.1 f.1)
        (texts_tie (column a 3) (column b 3) e.2 f.2)
        (wholes_tie (column a 4) (column b 4) e.3 f.3))
        rows s
        (all_both (λ r. IsWhole 0 r × IsText 2 r × IsText 3 r) (IsWhole 4) IsEntryRow (λ r h n. (h.0, h.1, h.2, n)) rows half numbers)
        (all_weaker _ (λ r. clashes plain (2 ∷ 3 ∷ 4 ∷ []) rows r
        ≡ false) (λ r h.
        not-true _ (and_parts _ _ h).0) rows (sound.obeys.rules Unique).1.1.1.1.1.1.1.0)

    -- the rows of a found database
    pub rows_of_office : AreOfficeRows trees
    rows_of_office meta = tt
    rows_of_office seats = seats_found
    rows_of_office maps = maps_found
    rows_of_office links = links_found
    rows_of_office orders = orders_found
    rows_of_office devices = devices_found
    rows_of_office given = given_found
    rows_of_office ledger = ledger_found
    rows_of_office _ = tt
