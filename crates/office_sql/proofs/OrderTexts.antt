-- What the texts that read and write orders mean, show, and do.
use Rattle.std.proofs.Common.{◌≡◌, ◌&&◌, ◌∷◌}
use Rattle.text_core.proofs.Kit.{inl, inr, ℕ, ℤ, pos, true, false, List, [], map, Bool, arith, refl, sym, ap, ap₂, subst, subst₂, ◌∙◌, Option, None, Ok}
use Rattle.text_core.proofs.Kit.{is_eq, option_map, option_and_then, ordering_then, tied_itself, nat_list_cmp_total, text_itself, and-true, filter, list_all}
use Rattle.office_sql.proofs.Kit.{Null, Int, Row, column, bytes, Term, lit, col, cast_row, put_row, Database, State, Executes, are_typed, next_rowid}
use Rattle.office_sql.proofs.Kit.{then-Equal, all_unmap, IsPermutation-sort_by, all-permutation, holds, IsAnswer, overlay}
use Rattle.sqlite.specs.declared.types.Value.TheVariants.{Text as Words}
use Rattle.sqlite.specs.Listing.{understood}
use Rattle.sqlite_trees.proofs.ListLemmas.{all_weaker}
use Rattle.sqlite_tied.specs.Compute.{everything}
use Rattle.id_ranges.specs.Prelude.{mac_text, mac_of_text}
use Rattle.office_sql.proofs.Types.{OfCustomer, Order, Cursor, AddOrder, SetCursor}
use Rattle.office_tables.specs.Prelude.{claim_of, is_of, is_order, order_at, order_cmp, with_row, with_cursor_of}
use Rattle.office_tables.proofs.TotalOrders.{order_total}
use Rattle.office_tables.proofs.Finding.{none_passes}
use Rattle.office_sql.specs.Prelude.{orders, order_starts, orders_table, order_start_table, office_schema, rows_in, is_parameter, passes, text_if, mac_if}
use Rattle.office_sql.specs.Prelude.{mac_value, whole_value, columns_with_cursor, order_in_row, joined_order, order_columns, is_validity_of_order}
use Rattle.office_sql.specs.Prelude.{order_start_columns, with_order_not_before, HaveOneValidityRow, IsOffice, IsOrderRow, tables_in, told_in, SqlAdds, Wrote}
use Rattle.office_sql.specs.Prelude.{claim_in, pair}
use Rattle.office_sql.proofs.ColumnKinds.{AreOf, are_of, text_stays, number_stays}
use Rattle.office_sql.proofs.Finding.{only_found, texts_same, keys_tied, keys_alike}
use Rattle.office_sql.proofs.Inserting.{IsInsert}
use Rattle.office_sql.proofs.Kept.{parts_kept, shows_joined, shows_parts}
use Rattle.office_sql.proofs.Keyed.{Apart}
use Rattle.office_sql.proofs.LedgerAsked.{IsReadAs}
use Rattle.office_sql.proofs.Missing.{text_cast, text_back, text_typed}
use Rattle.office_sql.proofs.Offices.{both_changed, table_changed, told_stays}
use Rattle.office_sql.proofs.Reading.{IsRead}
use Rattle.office_sql.proofs.Replacing.{IsUpdate, IsSet, SetsOne, remade, sets}
use Rattle.office_sql.proofs.RowsWithValidity.{find_made, more_with_validity, validity_as_was, replaced_with_validity}
use Rattle.office_sql.proofs.Scan.{Scanned}
use Rattle.office_sql.proofs.Stepping.{cast_null, cast_int}
use Rattle.office_sql.proofs.TableOf.{TableOf, HasValidity, AreRowsAs, by_key, in_order, joined_query, key_fits}
use Rattle.office_sql.proofs.Values.{text_is, texts_cmp}
use Rattle.office_sql.specs.declared.orders.TheConstants.{SELECT_CLAIMS, SELECT_ORDER, SELECT_ORDERS}
use Rattle.office_sql.specs.declared.orders.TheConstants.{INSERT_INTO_ORDERS, INSERT_INTO_ORDER_START, UPDATE_OF_CURSOR}

abbrev pub as_orders : TableOf (OfCustomer Order)
as_orders = record {
  name = orders;
  Typed = IsOrderRow;
  cmp = order_cmp;
  total = order_total;
  value = order_in_row;
  key = 1 ∷ 2 ∷ [];
  compared = λ a b e f. ap₂ ordering_then (texts_cmp (column a 1) (column b 1) e.0 f.0) (then-Equal _ ∙ texts_cmp (column a 2) (column b 2) e.1 f.1);
  from_office = λ rows are. are;
  for_office = λ rows are. are;
}

abbrev pub orders_validity : HasValidity as_orders
orders_validity = record {
  side = order_starts;
  is_for = is_validity_of_order;
  with_text = λ t o. record o { row = record o.row { not_before = t } };
  columns = order_start_columns;
  own = λ o id. ap₂ ◌&&◌ (text_itself o.customer o.customer refl) (text_itself o.row.name o.row.name refl);
  unread = λ t u a b. refl;
  ties = λ a b s e f. keys_alike a.customer a.row.name b.customer b.row.name (bytes (column s 1)) (bytes (column s 2)) e f;
  fits = λ params r s e f. key_fits params r s e.0 e.1 f;
}

-- ---- what is read

abbrev pub shown : List Term
shown = col 1 1 ∷ col 1 2 ∷ col 1 3 ∷ col 1 4 ∷ col 1 5 ∷ col 1 6 ∷ col 1 7 ∷ col 1 8 ∷ col 1 9 ∷ col 1 10 ∷ col 2 3 ∷ []

abbrev pub one_tests : List Term
one_tests = is_parameter 1 0 ∷ is_parameter 2 1 ∷ []

abbrev pub own_test : List Term
own_test = is_parameter 1 0 ∷ []

pub one_read : IsReadAs office_schema SELECT_ORDER.now (joined_query as_orders orders_validity one_tests shown)
unfolding understood everything
one_read = record { names = _; is = refl; plain = (refl, refl); unlisted = refl; bare = λ schema base. refl }

pub own_read : IsReadAs office_schema SELECT_ORDERS.now (joined_query as_orders orders_validity own_test shown)
unfolding understood everything
own_read = record { names = _; is = refl; plain = (refl, refl); unlisted = refl; bare = λ schema base. refl }

abbrev pub claim_shown : List Term
claim_shown = col 1 3 ∷ col 1 4 ∷ col 1 5 ∷ col 1 6 ∷ col 1 7 ∷ col 1 8 ∷ col 1 9 ∷ []

pub claims_read : IsRead office_schema SELECT_CLAIMS.now orders own_test claim_shown (by_key (1 ∷ 2 ∷ []))
unfolding understood everything
claims_read = record { names = _; is = refl; plain = (refl, refl); unlisted = refl; bare = λ schema base. refl; there = λ db. refl }

-- what is read of the rows that it shows
pub claims_shown : (customer : List ℕ) (db : Database) → IsOffice db → (rows : List Row)
    → Scanned own_test claim_shown (by_key (1 ∷ 2 ∷ [])) (Words customer ∷ []) (rows_in db.trees orders) rows
    → map claim_in rows ≡ map (λ o. claim_of o.row) (filter (is_of customer) (tables_in db.trees).orders)
claims_shown customer db office rows s =
    let params : Row = Words customer ∷ [] in
    let passed : (r : Row) → IsOrderRow r → passes own_test params r ≡ is_of customer (order_in_row r) =
    λ r e. and-true _ ∙ text_is (column r 1) customer e.0 in
    shows_parts as_orders (is_of customer) own_test params passed claim_shown claim_in (λ o. claim_of o.row) (λ r. refl) (λ a b. refl)
    (rows_in db.trees orders) rows (office.rows orders) s
    ∙ parts_kept as_orders (is_of customer) own_test params passed (λ o. claim_of o.row)
    (with_order_not_before (rows_in db.trees order_starts)) (λ o. refl) (λ o. refl) (in_order as_orders (rows_in db.trees orders))

-- orders have one key where their customers and their names are equal
pub order_tied : (x y : OfCustomer Order) → is_eq (order_cmp x y) ≡ is_order x.customer x.row.name y
order_tied x y = texts_same x.customer x.row.name y.customer y.row.name

passes_order : (c n : List ℕ) (r : Row) → IsOrderRow r → passes one_tests (Words c ∷ Words n ∷ []) r ≡ is_order c n (order_in_row r)
passes_order c n r e = ap₂ ◌&&◌ (text_is (column r 1) c e.0) (and-true _ ∙ text_is (column r 2) n e.1)

-- what is read of the rows that a query of whole orders shows
abbrev ShowsOrders : List Term → Row → (OfCustomer Order → Bool) → Type 0
ShowsOrders tests params p =
    (db : Database) → IsOffice db → (rows : List Row) → IsAnswer (joined_query as_orders orders_validity tests shown) (overlay db.trees []) params rows
    → map joined_order rows ≡ filter p (tables_in db.trees).orders

-- the tests read the first table alone
shows_orders : (tests : List Term) (params : Row) (p : OfCustomer Order → Bool)
    → ((r : Row) → IsOrderRow r → passes tests params r ≡ p (order_in_row r))
    → ((u : Option (List ℕ)) (o : OfCustomer Order) → p (orders_validity.with_text u o) ≡ p o)
    → ((r s : Row) → list_all (holds (pair params r s)) tests ≡ passes tests params r) → ShowsOrders tests params p
shows_orders tests params p is same blind db office rows =
    shows_joined as_orders p tests params is orders_validity shown joined_order same blind (λ r s. refl) (λ a b s u. refl)
    (overlay db.trees []) rows (office.rows orders) office.order_validity

pub one_shown : (c n : List ℕ) → ShowsOrders one_tests (Words c ∷ Words n ∷ []) (is_order c n)
one_shown c n = shows_orders one_tests _ (is_order c n) (passes_order c n) (λ u o. refl) (λ r s. refl)

pub own_shown : (c : List ℕ) → ShowsOrders own_test (Words c ∷ []) (is_of c)
own_shown c = shows_orders own_test _ (is_of c) (λ r e. and-true _ ∙ text_is (column r 1) c e.0) (λ u o. refl) (λ r s. refl)

-- ---- a new order, and its beginning of validity

abbrev pub add_terms : List Term
add_terms = lit Null ∷ col 0 0 ∷ col 0 1 ∷ col 0 2 ∷ col 0 3 ∷ col 0 4 ∷ col 0 5 ∷ col 0 6 ∷ col 0 7 ∷ col 0 8 ∷ col 0 9 ∷ []

pub add_insert : IsInsert office_schema INSERT_INTO_ORDERS.now orders add_terms 11
unfolding understood everything
add_insert = record { means = record { is = refl; plain = (refl, refl); there = refl; uncounted = refl; unstamped = refl }; one = λ params. refl }

pub add_casts : (o : OfCustomer Order) → cast_row orders_table (Null ∷ order_columns o) ≡ Null ∷ order_columns o
add_casts o = rw (
  cast_null,
  cast_int (pos o.row.range.width),
  cast_int (pos o.row.range.first),
  cast_int (pos o.row.range.quantity),
  cast_int (pos o.row.macs),
  text_cast (option_map mac_text o.row.mac),
  cast_int (pos o.row.cursor),
) refl

abbrev pub validity_terms : List Term
validity_terms = lit Null ∷ col 0 0 ∷ col 0 1 ∷ col 0 2 ∷ []

pub validity_insert : IsInsert office_schema INSERT_INTO_ORDER_START.now order_starts validity_terms 4
unfolding understood everything
validity_insert = record { means = record { is = refl; plain = (refl, refl); there = refl; uncounted = refl; unstamped = refl }; one = λ params. refl }

pub validity_casts : (o : OfCustomer Order) → cast_row order_start_table (Null ∷ order_start_columns o) ≡ Null ∷ order_start_columns o
validity_casts o = rw (cast_null, text_cast o.row.not_before) refl

-- an address is read back where its text is
pub address_back : (text : Option (List ℕ)) (mac : Option ℕ) → text ≡ option_map mac_text mac
    → option_and_then mac_of_text text ≡ mac → mac_if (mac_value mac) ≡ mac
address_back text mac is back = ap (option_and_then mac_of_text) (text_back (option_map mac_text mac) ∙ sym is) ∙ back

pub order_added : (o : OfCustomer Order) → mac_if (mac_value o.row.mac) ≡ o.row.mac
    → (old mid new : Database) → IsOffice old
    → order_at o.customer o.row.name (tables_in old.trees) ≡ None
    → SqlAdds orders (order_columns o) old mid → SqlAdds order_starts (order_start_columns o) mid new → Wrote (AddOrder o) old new
order_added o back old mid new office none adds side =
    let rows = rows_in old.trees orders in
    let validities = rows_in old.trees order_starts in
    let new_row : Row = Int (next_rowid rows) ∷ order_columns o in
    let own_row : Row = Int (next_rowid validities) ∷ order_start_columns o in
    let told : told_in new.trees
    ≡ told_in old.trees = told_stays order_starts mid.trees new.trees (λ e. cc) (λ e. cc) side.others
    ∙ told_stays orders old.trees mid.trees (λ e. cc) (λ e. cc) adds.others in
    let unkeyed = all-permutation (λ y. is_order o.customer o.row.name y ≡ false) _ _ (IsPermutation-sort_by order_cmp order_total (map order_in_row rows))
    (all_unmap (λ y. is_order o.customer o.row.name y ≡ false) (with_order_not_before validities) _ (none_passes _ _ none)) in
    let apart = all_weaker _ (Apart order_cmp order_total (order_in_row new_row)) (λ y e. order_tied o y ∙ e) (map order_in_row rows) unkeyed in
    let more = more_with_validity as_orders orders_validity (order_columns o) (order_start_columns o) rows validities (office.rows orders) office.order_validity
    (refl, refl, rw (text_typed (option_map mac_text o.row.mac)) refl) (refl, refl) (orders_validity.own o (next_rowid validities)) apart in
    let after : rows_in new.trees order_starts ≡ put_row own_row validities =
    side.row ∙ ap (λ l. put_row (Int (next_rowid l) ∷ order_start_columns o) l) (adds.others order_starts (λ e. cc)) in
    let is : orders_validity.with_text (text_if (column own_row 3)) (order_in_row new_row) ≡ o =
    λ i. record o { row = record o.row { mac = back i; not_before = text_back o.row.not_before i } } in
    let it = both_changed old new office side.schema side.sound orders order_starts mid.trees adds.others
    side.others (subst (AreRowsAs as_orders) (sym adds.row) more.are) tt
    (subst₂ (HaveOneValidityRow is_validity_of_order order_in_row) (sym adds.row) (sym after) more.validity, office.given_validity) in
    let all = ap₂ (λ l k. map (with_order_not_before k) (in_order as_orders l)) adds.row after
    ∙ more.placed_is ∙ ap (λ x. with_row order_cmp x (tables_in old.trees).orders) is in
    record { office = it.0; made = it.1 ∙ ap (λ l. record (tables_in old.trees) { orders = l }) all; rows = (mid, adds, side); told = told }

-- ---- a new cursor

abbrev set_shown : List Term
set_shown = col 1 0 ∷ col 1 0 ∷ col 1 1 ∷ col 1 2 ∷ col 1 3 ∷ col 1 4 ∷ col 1 5 ∷ col 1 6 ∷ col 1 7 ∷ col 1 8 ∷ col 1 9 ∷ col 0 2 ∷ []

set_update : IsUpdate UPDATE_OF_CURSOR.now orders one_tests set_shown
unfolding understood everything
set_update = record { is = refl; plain = (refl, refl); there = refl; same = λ db. refl }

module _ (c : OfCustomer Cursor) where
  abbrev set_columns : Row → Row
  set_columns = columns_with_cursor c.row.number

  abbrev pub set_values : Row
  set_values = Words c.customer ∷ Words c.row.order ∷ whole_value c.row.number ∷ []

  abbrev is_its : OfCustomer Order → Bool
  is_its = is_order c.customer c.row.order

  kinds : (r : Row) → IsOrderRow r → AreOf 1 orders_table.columns r
  kinds r t = are_of orders_table.columns r (refl, (refl, (refl, (refl, (refl, (refl, (refl, (refl, (refl, (refl, tt)))))))))) t.2

  casts : (id : ℤ) (r : Row) → IsOrderRow r → cast_row orders_table (Int id ∷ set_columns r) ≡ Int id ∷ set_columns r
  casts id r t =
      let k = kinds r t in
      rw (
        cast_int id,
        text_stays (column r 1) k.0,
        text_stays (column r 2) k.1.0,
        text_stays (column r 3) k.1.1.0,
        text_stays (column r 4) k.1.1.1.0,
        number_stays (column r 5) k.1.1.1.1.0,
        number_stays (column r 6) k.1.1.1.1.1.0,
        number_stays (column r 7) k.1.1.1.1.1.1.0,
        number_stays (column r 8) k.1.1.1.1.1.1.1.0,
        text_stays (column r 9) k.1.1.1.1.1.1.1.1.0,
        cast_int (pos c.row.number),
      ) refl

  typed : (r : Row) → IsOrderRow r → are_typed None 0 orders_table.columns (set_columns r) ≡ true
  typed r t =
      let k = kinds r t in
      rw (k.0, k.1.0, k.1.1.0, k.1.1.1.0, k.1.1.1.1.0, k.1.1.1.1.1.0, k.1.1.1.1.1.1.0, k.1.1.1.1.1.1.1.0, k.1.1.1.1.1.1.1.1.0) refl

  is_set : IsSet as_orders is_its one_tests set_shown set_values set_columns
  is_set = record {
    tested = passes_order c.customer c.row.order;
    evals = λ r. refl;
    casts = casts;
    typed = λ id r t. (t.0, t.1, typed r t);
    tied = λ id r t is. ap₂ ordering_then (tied_itself nat_list_cmp_total (bytes (column r 1))) (tied_itself nat_list_cmp_total (bytes (column r 2)));
  }

  -- where a cursor is set, it is the order's
  pub cursor_set : (old new : State) (count : ℕ) → IsOffice old.now
      → Executes UPDATE_OF_CURSOR.now set_values old new (Ok count) → count ≡ 1
      → Wrote (SetCursor c) old.now new.now
  cursor_set old new count office ran one =
      elim (sets as_orders is_its (λ a b e f. keys_tied c.customer c.row.order a.customer a.row.name b.customer b.row.name e f) UPDATE_OF_CURSOR.now
      one_tests set_shown set_update set_values set_columns is_set old new count office ran)
      [ inl none ↦ absurd (omega (arith, none.counted)) | inr one ↦ wrote one ]
    where
      wrote : SetsOne as_orders is_its set_columns old.now new.now count → Wrote (SetCursor c) old.now new.now
      wrote one =
          let rows = rows_in old.now.trees orders in
          let validities = rows_in old.now.trees order_starts in
          let found = find_made is_its (with_order_not_before validities) (λ o. refl) (in_order as_orders rows)
          ∙ ap (option_map (with_order_not_before validities))
          (only_found order_cmp order_total order_in_row is_its rows one.was (office.rows orders).keyed one.one.alone) in
          let validity = validity_as_was as_orders orders_validity
          one.id one.was (set_columns one.was) rows validities office.order_validity (office.rows orders).rising one.one.split (λ s. refl) in
          let it = table_changed old.now new.now office one.replaced.schema one.replaced.sound orders one.replaced.others one.rows
          (subst (λ l. HaveOneValidityRow is_validity_of_order order_in_row l validities) (sym one.replaced.row) validity, office.given_validity) in
          let all = replaced_with_validity as_orders orders_validity validities
          (order_in_row (Int one.id ∷ set_columns one.was)) rows (rows_in new.now.trees orders) one.placed_is in
          record {
            office = it.0;
            made = it.1 ∙ ap (λ l. record (tables_in old.now.trees) { orders = l }) all
                ∙ sym (ap (λ o. with_cursor_of o c.row.number (tables_in old.now.trees)) found);
            rows = remade as_orders is_its set_columns set_columns old.now new.now count one refl;
            told = told_stays orders old.now.trees new.now.trees (λ e. cc) (λ e. cc) one.replaced.others;
          }
