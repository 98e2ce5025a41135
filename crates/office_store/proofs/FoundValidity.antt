-- The validity rows of a sound database of a schema that begins with the second version's tables, whose trees are in order: each is
-- one of an order or a record, and where none of these lacks one, each has exactly one. And what is so of them by the version.
use Rattle.std.proofs.Common.{◌≡◌, ℕ, List, [], ◌∷◌, ◌&&◌, ◌||◌, codes, map, filter, find, Bool, true, false, Some, refl, sym, ap, subst, ◌∙◌, inl, inr, ◌≢◌}
use Rattle.std.proofs.Common.{arith, None, Ordering, is_eq, true≢false, slice_get, is_some}
use Rattle.std.specs.List.{AllByRecursion}
use Rattle.text_core.proofs.Kit.{and-true, and_parts, not-true}
use Rattle.office_sql.proofs.Kit.{Null, Row, column, Trees, IsAscending, IsOrdered, Shape, catalog_tree, IsListed, IsSound, ForeignKey, Unique, Index}
use Rattle.office_sql.proofs.Kit.{Reference, Table, agree, clashes, has_null, is_held, parent_key, plain, Has, has_filtered, slice_get-filter}
use Rattle.office_sql.proofs.Kit.{ascending_from_map, all_both, all_of, all-map, sort_by, Database}
use Rattle.sqlite.specs.declared.types.Value.TheVariants.{Text as Words}
use Rattle.sqlite_schema.specs.Names.{same_name}
use Rattle.sqlite_value.specs.Keys.{joined}
use Rattle.sqlite_trees.proofs.ListLemmas.{all_weaker, ascending-filter}
use Rattle.office_tables.specs.Prelude.{order_cmp, given_cmp}
use Rattle.office_sql.specs.Prelude.{orders, given, order_starts, given_starts, order_in_row, given_in_row, is_validity_of_order, is_validity_of_given}
use Rattle.office_sql.specs.Prelude.{order_start_table, given_start_table, index_at, to, rows_in, tree_of, AreKeyed, AreOfficeRows, AreRows, HaveOneValidityRow}
use Rattle.office_sql.specs.Prelude.{HasOne, IsGivenRow, IsOffice, IsOrderRow, IsValidityRow, IsText, site_text_table, not_before_in_rows, tables_in}
use Rattle.office_sql.specs.Prelude.{with_order_not_before, with_given_not_before}
use Rattle.office_sql.proofs.OrderTexts.{order_tied}
use Rattle.office_sql.proofs.GivenTexts.{given_tied}
use Rattle.office_store.proofs.Types.{Version, V1, V2, V3}
use Rattle.office_store.specs.Prelude.{AreWithoutNotBefore, StaysWithoutNotBefore}
use Rattle.store_inspection.specs.Prelude.{HasOneValidityRowEach, AreValidityRowsFound, HasMeta, HasValidityRows, HaveValidityRows, IsFound, schema_of}
use Rattle.store_inspection.proofs.FoundLacks.{since_v2, order_validity_typed, given_validity_typed}
use Rattle.office_store.proofs.FoundNothing.{no_validity_found}
use Rattle.office_store.proofs.FoundOffice.{shaped}
use Rattle.store_inspection.proofs.FoundRows.{texts_tie, then_ties, last_ties, rows_found}
use Rattle.office_store.proofs.Telling.{told_once}
use Rattle.store_inspection.proofs.ValidityKeys.{agrees_its, any_found, is_its, its_twice}

-- ---- validity rows of which no two have one key

module _ {A : Type 0} (cmp : A → A → Ordering) (value : Row → A) (is_for : A → Row → Bool)
    (tied : (a : A) (s t : Row) → is_for a s ≡ true → is_for a t ≡ true → is_eq (cmp (value s) (value t)) ≡ true) where
  twice : (a : A) (validities : List Row) (s t : Row) (more : List Row) → AreKeyed cmp (map value validities) → filter (is_for a) validities ≡ s ∷ t ∷ more → ⊥
  twice a validities s t more keyed e =
      let two = subst (IsAscending (λ x y. is_eq (cmp (value x) (value y)) ≡ false)) e
      (ascending-filter _ (is_for a) validities (ascending_from_map (λ x y. is_eq (cmp x y) ≡ false) value validities keyed)) in
      let first = (has_filtered (is_for a) validities s (subst (λ l. Has l s) (sym e) (inl refl))).1 in
      let second = (has_filtered (is_for a) validities t (subst (λ l. Has l t) (sym e) (inr (inl refl)))).1 in
      true≢false (sym (tied a s t first second) ∙ two.0.0)

  exactly_one : (a : A) (validities : List Row) → AreKeyed cmp (map value validities) → is_some (find (is_for a) validities) ≡ true → HasOne is_for validities a
  exactly_one a validities keyed some = go (filter (is_for a) validities) refl
    where
      go : (l : List Row) → filter (is_for a) validities ≡ l → HasOne is_for validities a
      go [] e = absurd (true≢false (sym some ∙ ap is_some (sym (slice_get-filter (is_for a) validities) ∙ ap (λ l. slice_get l 0) e)))
      go (s ∷ []) e = (s, e)
      go (s ∷ t ∷ more) e = absurd (twice a validities s t more keyed e)

  -- where each row has some, each has exactly one
  each_with_one : (rows validities : List Row) → AreRows IsValidityRow cmp value validities → HaveValidityRows is_for value rows validities
      → AllByRecursion (λ s. is_some (find (λ r. is_for (value r) s) rows) ≡ true) validities → HaveOneValidityRow is_for value rows validities
  each_with_one rows validities are some back = record {
    rising = are.rising;
    numbered = are.numbered;
    typed = are.typed;
    one = all_weaker _ (λ r. HasOne is_for validities (value r)) (λ r h. exactly_one (value r) validities are.keyed h) rows some;
    for_one = back;
  }

-- ---- validity rows whose reference holds

there : (s : Row) → IsValidityRow s → has_null (1 ∷ 2 ∷ []) s ≡ false
there s f = rw (f.0, f.1) refl

-- a reference to the first two columns of a tree, where these are texts
parented : (tables : List Table) (db : Trees) (tree : ℕ) (ref : Reference) → parent_key tables ref ≡ Some (tree, 1 ∷ 2 ∷ [], plain)
    → AllByRecursion (λ r. IsText 1 r × IsText 2 r) (db tree) → (s : Row) → IsValidityRow s
    → ((has_null (1 ∷ 2 ∷ []) s || is_held db (1 ∷ 2 ∷ []) s (parent_key tables ref)) && true) ≡ true → is_some (find (λ r. is_its r s) (db tree)) ≡ true
parented tables db tree ref pointed typed s f h =
    let held : is_held db (1 ∷ 2 ∷ []) s (Some (tree, 1 ∷ 2 ∷ [], plain)) ≡ true =
    ap (λ b. b || is_held db (1 ∷ 2 ∷ []) s (Some (tree, 1 ∷ 2 ∷ [], plain))) (sym (there s f))
    ∙ ap (λ k. has_null (1 ∷ 2 ∷ []) s || is_held db (1 ∷ 2 ∷ []) s k) (sym pointed) ∙ sym (and-true _) ∙ h in
    any_found (λ r. agree plain (1 ∷ 2 ∷ []) r (1 ∷ 2 ∷ []) s) (λ r. is_its r s) (db tree) (all_weaker _ _ (λ r e. agrees_its r s e f) (db tree) typed) held

abbrev to_orders : Reference
to_orders = to (1 ∷ 2 ∷ []) (codes "orders") (codes "customer" ∷ codes "name" ∷ [])

abbrev to_given : Reference
to_given = to (1 ∷ 2 ∷ []) (codes "given") (codes "issuer" ∷ codes "serial" ∷ [])

orders_pointed : (more : List Table) → parent_key (since_v2 more).tables to_orders ≡ Some (tree_of orders, 1 ∷ 2 ∷ [], plain)
unfolding same_name joined
orders_pointed more = refl

given_pointed : (more : List Table) → parent_key (since_v2 more).tables to_given ≡ Some (tree_of given, 1 ∷ 2 ∷ [], plain)
unfolding same_name joined
given_pointed more = refl

-- ---- the tables of a found database

-- the indexes of the validity rows' keys
abbrev later_indexes : List Index
later_indexes = index_at 18 (codes "sqlite_autoindex_order_start_1") (tree_of order_starts) (1 ∷ 2 ∷ []) ∷ index_at 20 (codes "sqlite_autoindex_given_start_1") (tree_of given_starts) (1 ∷ 2 ∷ []) ∷ []

-- a row with these two columns
abbrev key_of : List ℕ → List ℕ → Row
key_of first second = Null ∷ Words first ∷ Words second ∷ []

module _ (more : List Table) (shapes : ℕ → Shape) (reals : ℕ → ℕ) (trees : Trees)
    (sound : IsSound (since_v2 more) trees) (listed : IsListed (trees catalog_tree) shapes reals) (ordered : IsOrdered shapes trees)
    (rows : AreOfficeRows trees) where
  -- validity rows of which no two clash
  validity_rows : {A : Type 0} (t : Table) (cmp : A → A → Ordering) (value : Row → A) → Has (since_v2 more).tables t
      → ((a b : Row) → IsValidityRow a → IsValidityRow b → is_eq (cmp (value a) (value b)) ≡ agree plain (1 ∷ 2 ∷ []) b (1 ∷ 2 ∷ []) a)
      → AllByRecursion IsValidityRow (trees t.tree) → AllByRecursion (λ r. clashes plain (1 ∷ 2 ∷ []) (trees t.tree) r ≡ false) (trees t.tree)
      → AreRows IsValidityRow cmp value (trees t.tree)
  validity_rows t cmp value has ties = rows_found (1 ∷ 2 ∷ []) IsValidityRow cmp value ties (trees t.tree)
      (shaped (1 ∷ 2 ∷ []) (1 ∷ 4 ∷ []) (6 ∷ 1 ∷ 2 ∷ []) (λ P first second. first)
      (order_start_table ∷ given_start_table ∷ more) later_indexes shapes reals trees sound listed ordered t has)

  order_validity_rows : AreRows IsValidityRow order_cmp order_in_row (rows_in trees order_starts)
  order_validity_rows = validity_rows order_start_table order_cmp order_in_row (inr (inr (inr (inr (inr (inr (inr (inr (inl refl)))))))))
      (λ a b e f. then_ties _ _ _ _ (texts_tie (column a 1) (column b 1) e.0 f.0) (last_ties _ _ (texts_tie (column a 2) (column b 2) e.1 f.1)))
      (order_validity_typed more trees sound) (all_weaker _ _ (λ r h. not-true _ (and_parts _ _ h).0) _ (sound.obeys.rules Unique).1.1.1.1.1.1.1.1.0)

  given_validity_rows : AreRows IsValidityRow given_cmp given_in_row (rows_in trees given_starts)
  given_validity_rows = validity_rows given_start_table given_cmp given_in_row (inr (inr (inr (inr (inr (inr (inr (inr (inr (inl refl))))))))))
      (λ a b e f. then_ties _ _ _ _ (texts_tie (column a 1) (column b 1) e.0 f.0) (last_ties _ _ (texts_tie (column a 2) (column b 2) e.1 f.1)))
      (given_validity_typed more trees sound) (all_weaker _ _ (λ r h. not-true _ (and_parts _ _ h).0) _ (sound.obeys.rules Unique).1.1.1.1.1.1.1.1.1.0)

  -- each validity row is one of an order, or of a record
  orders_back : AllByRecursion (λ s. is_some (find (λ r. is_its r s) (rows_in trees orders)) ≡ true) (rows_in trees order_starts)
  orders_back = all_both IsValidityRow _ (λ s. is_some (find (λ r. is_its r s) (rows_in trees orders)) ≡ true)
      (λ s f h. parented (since_v2 more).tables trees (tree_of orders) to_orders (orders_pointed more)
      (all_weaker IsOrderRow _ (λ r e. (e.0, e.1)) (rows_in trees orders) (rows orders).typed) s f h)
      (rows_in trees order_starts) (order_validity_typed more trees sound) (sound.obeys.rules ForeignKey).1.1.1.1.1.1.1.1.0

  given_back : AllByRecursion (λ s. is_some (find (λ r. is_its r s) (rows_in trees given)) ≡ true) (rows_in trees given_starts)
  given_back = all_both IsValidityRow _ (λ s. is_some (find (λ r. is_its r s) (rows_in trees given)) ≡ true)
      (λ s f h. parented (since_v2 more).tables trees (tree_of given) to_given (given_pointed more)
      (all_weaker IsGivenRow _ (λ r e. (e.0, e.1)) (rows_in trees given) (rows given).typed) s f h)
      (rows_in trees given_starts) (given_validity_typed more trees sound) (sound.obeys.rules ForeignKey).1.1.1.1.1.1.1.1.1.0

  -- each has exactly one, where no order and no record lacks its validity row
  pub one_validity_row_each : HasValidityRows trees → HasOneValidityRowEach trees
  one_validity_row_each has = record {
    orders = each_with_one order_cmp order_in_row is_validity_of_order
        (λ a s t e f. order_tied (order_in_row s) (order_in_row t)
        ∙ its_twice (key_of a.customer a.row.name) s t e f) (rows_in trees orders) (rows_in trees order_starts)
        order_validity_rows has.orders orders_back;
    given = each_with_one given_cmp given_in_row is_validity_of_given
        (λ a s t e f. given_tied (given_in_row s) (given_in_row t)
        ∙ its_twice (key_of a.row.issuer a.row.serial) s t e f) (rows_in trees given) (rows_in trees given_starts)
        given_validity_rows has.given given_back;
  }

-- ---- by the version

-- beginnings of validity are as the version has them
pub validity_found : (version : Version) (shapes : ℕ → Shape) (reals : ℕ → ℕ) (trees : Trees) → IsSound (schema_of version) trees
    → IsListed (trees catalog_tree) shapes reals → IsOrdered shapes trees → AreOfficeRows trees
    → AreValidityRowsFound version (record { schema = schema_of version; trees = trees })
validity_found V2 shapes reals trees sound listed ordered rows = one_validity_row_each [] shapes reals trees sound listed ordered rows
validity_found V3 shapes reals trees sound listed ordered rows = one_validity_row_each (site_text_table ∷ []) shapes reals trees sound listed ordered rows
validity_found version shapes reals trees sound listed ordered rows = no_validity_found shapes reals trees listed ordered version refl sound

-- no beginning of validity is told where there are no validity rows
without_not_before : (db : Trees) → (rows_in db order_starts ≡ []) × (rows_in db given_starts ≡ []) → AreWithoutNotBefore (tables_in db)
without_not_before db none = (
  all-map (λ o. o.row.not_before ≡ None) (with_order_not_before (rows_in db order_starts)) (sort_by order_cmp (map order_in_row (rows_in db orders)))
      (all_of (λ o. not_before_in_rows is_validity_of_order (rows_in db order_starts) o
      ≡ None) (λ o.
      ap (λ l. not_before_in_rows is_validity_of_order l o) none.0)
      (sort_by order_cmp (map order_in_row (rows_in db orders)))),
  all-map (λ o. o.row.not_before ≡ None) (with_given_not_before (rows_in db given_starts)) (sort_by given_cmp (map given_in_row (rows_in db given)))
      (all_of (λ o. not_before_in_rows is_validity_of_given (rows_in db given_starts) o
      ≡ None) (λ o.
      ap (λ l. not_before_in_rows is_validity_of_given l o) none.1)
      (sort_by given_cmp (map given_in_row (rows_in db given)))),
)

-- a store that tells the number of the first version has no beginning of validity
pub without_not_before_of : (version : Version) (site : List ℕ) (db : Database) → IsFound version db
    → version ≢ V3 → HasMeta version site db.trees → StaysWithoutNotBefore db.trees (tables_in db.trees)
without_not_before_of V2 site db found earlier told other is = absurd (omega (arith, told_once V1 V2 other site db.trees is told))
without_not_before_of V3 site db found earlier told other is = absurd (earlier refl)
without_not_before_of version site db found earlier told other is = without_not_before db.trees found.validity

-- a database of the third version in which no beginning of validity lacks is the office's
pub office_of : (db : Database) → IsFound V3 db → HasValidityRows db.trees → IsOffice db
office_of db found has =
    let validity = found.validity has in
    record { schema = found.schema; sound = found.sound; rows = found.rows; order_validity = validity.orders; given_validity = validity.given }
