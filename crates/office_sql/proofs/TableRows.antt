-- What an edit of a table's rows makes of the rows in key order.
use Rattle.std.proofs.Common.{◌≡◌, ◌+ℤ◌, ◌∷◌, Ordering}
use Rattle.text_core.proofs.Kit.{ℤ, pos, true, false, not, cond, List, [], map, fold, refl, sym, ap, ◌∙◌, subst, arith, Less, Equal, Greater, is_lt, is_eq}
use Rattle.text_core.proofs.Kit.{true≢false, IsPermutation, IsTrue, AllByRecursion, match_ordering, nat_tests, ints, IsPermutation-refl, IsPermutation-sym}
use Rattle.text_core.proofs.Kit.{IsPermutation-trans, IsPermutation-cons, IsPermutation-middle, IsPermutation-map}
use Rattle.office_sql.proofs.Kit.{Value, Null, Int, Real, Row, is_int, IsTable, rowid, has_rowid, put_row, without_rowid, next_rowid, id_in, all-filter}
use Rattle.office_sql.proofs.Kit.{filter_all, filter-filter, later_rowids, IsTable-put_row, all-put_row, value_cmp_total, value_cmp-Int}
use Rattle.sqlite.specs.declared.types.Value.TheVariants.{Text, Blob}
use Rattle.sqlite.specs.Order.{value_cmp}
use Rattle.sqlite_trees.proofs.ListLemmas.{all_weaker, ascending-filter}
use Rattle.office_tables.specs.Prelude.{with_row}
use Rattle.office_sql.proofs.Keyed.{Apart, gains, replaces}
use Rattle.office_sql.proofs.TableOf.{TableOf, AreRowsAs, in_order}

-- as `sqlite_exec` proves it of its own writes
pub put_row_same : (id : ℤ) (new : Row) → rowid new ≡ Int id → (rows : List Row) → IsTable rows → IsPermutation (put_row new rows) (new ∷ without_rowid id rows)
put_row_same id new keyed [] table = IsPermutation-refl _
put_row_same id new keyed (r ∷ rows) table = rw keyed (go (value_cmp (rowid r) (Int id)) refl (put_row_same id new keyed rows table.1))
  where
    kept : is_lt (value_cmp (rowid r) (Int id)) ≡ false → without_rowid id rows ≡ rows
    kept h = filter_all _ rows (all_weaker _ (λ x. not (has_rowid id x) ≡ true) (λ x k. ap not k) rows (later_rowids (Int id) r rows h table.0))

    go : (o : Ordering) → value_cmp (rowid r) (Int id) ≡ o → IsPermutation (put_row new rows) (new ∷ without_rowid id rows)
        → IsPermutation (match_ordering o (r ∷ put_row new rows) (new ∷ rows) (new ∷ r ∷ rows)) (new
        ∷ cond (not (is_eq o)) (r ∷ without_rowid id rows) (without_rowid id rows))
    go Less e more = IsPermutation-trans _ _ _ (IsPermutation-cons r _ _ more) (IsPermutation-middle (r ∷ []) new _)
    go Equal e more = rw (kept (ap is_lt e)) (IsPermutation-refl _)
    go Greater e more = rw (kept (ap is_lt e)) (IsPermutation-refl _)

abbrev after : ℤ → List Row → ℤ
after = fold (λ _ r. id_in (rowid r) +ℤ pos 1)

one_more : (v : Value) → IsTrue (is_int v) → value_cmp v (Int (id_in v +ℤ pos 1)) ≡ Less
one_more (Int n) h = value_cmp-Int n (n +ℤ pos 1) ∙ grind (arith, ints, nat_tests)
one_more Null h = absurd (true≢false (sym h))
one_more (Real x) h = absurd (true≢false (sym h))
one_more (Text t) h = absurd (true≢false (sym h))
one_more (Blob b) h = absurd (true≢false (sym h))

-- the next rowid is above each
below_next : (base : ℤ) (rows : List Row) → IsTable rows
    → AllByRecursion (λ r. IsTrue (is_int (rowid r))) rows
    → AllByRecursion (λ r. value_cmp (rowid r) (Int (after base rows)) ≡ Less) rows
below_next base [] up whole = tt
below_next base (r ∷ []) up whole = (one_more (rowid r) whole.0, tt)
below_next base (r ∷ s ∷ rows) up whole =
    let later = below_next (id_in (rowid r) +ℤ pos 1) (s ∷ rows) up.1 whole.1 in
    (value_cmp_total.trans _ _ _ up.0.0 later.0, later)

pub next_is_free : (rows : List Row) → IsTable rows → AllByRecursion (λ r. IsTrue (is_int (rowid r))) rows → without_rowid (next_rowid rows) rows ≡ rows
next_is_free rows up whole =
    filter_all _ rows (all_weaker _ (λ r. not (has_rowid (next_rowid rows) r)
    ≡ true) (λ r e. ap (λ o. not (is_eq o)) e) rows (below_next (pos 1) rows up whole))

-- the rows with a new one
pub put_next : (columns : Row) (rows : List Row) → IsTable rows → AllByRecursion (λ r. IsTrue (is_int (rowid r))) rows
    → IsPermutation (put_row (Int (next_rowid rows) ∷ columns) rows) ((Int (next_rowid rows) ∷ columns) ∷ rows)
put_next columns rows up whole =
    let new : Row = Int (next_rowid rows) ∷ columns in
    subst (λ l. IsPermutation (put_row new rows) (new ∷ l)) (next_is_free rows up whole) (put_row_same (next_rowid rows) new refl rows up)

-- the rows with one in place of that with its rowid
pub put_in_place : (id : ℤ) (columns : Row) (rows : List Row) → IsTable rows
    → IsPermutation (put_row (Int id ∷ columns) (without_rowid id rows)) ((Int id ∷ columns)
    ∷ without_rowid id rows)
put_in_place id columns rows up =
    let new : Row = Int id ∷ columns in
    let rest = without_rowid id rows in
    subst (λ l. IsPermutation (put_row new rest) (new ∷ l)) (filter-filter (λ r. not (has_rowid id r)) (λ r. not (has_rowid id r)) (λ r h. h) rows)
    (put_row_same id new refl rest (ascending-filter _ _ rows up))

module _ {A : Type 0} (t : TableOf A) where
  pub row_added : (columns : Row) (rows : List Row) → AreRowsAs t rows → t.Typed (Int (next_rowid rows) ∷ columns)
      → AllByRecursion (Apart t.cmp t.total (t.value (Int (next_rowid rows) ∷ columns))) (map t.value rows)
      → AreRowsAs t (put_row (Int (next_rowid rows) ∷ columns) rows)
      × (in_order t (put_row (Int (next_rowid rows) ∷ columns) rows) ≡ with_row t.cmp (t.value (Int (next_rowid rows) ∷ columns)) (in_order t rows))
  row_added columns rows are is_typed free =
      let new : Row = Int (next_rowid rows) ∷ columns in
      let there = IsPermutation-map t.value _ _ (IsPermutation-sym _ _ (put_next columns rows are.rising are.numbered)) in
      let it = gains t.cmp t.total (t.value new) (map t.value rows) (map t.value (put_row new rows)) (free, are.keyed) there in (
        record {
          rising = IsTable-put_row new rows are.rising;
          numbered = all-put_row _ new rows refl are.numbered;
          typed = all-put_row t.Typed new rows is_typed are.typed;
          keyed = it.0;
        },
        it.1,
      )

  -- old is the row with this rowid, and has the key
  pub row_replaced : (id : ℤ) (old columns : Row) (rows : List Row) → AreRowsAs t rows → IsPermutation rows (old ∷ without_rowid id rows)
      → t.Typed (Int id ∷ columns) → t.cmp (t.value (Int id ∷ columns)) (t.value old) ≡ Equal
      → AreRowsAs t (put_row (Int id ∷ columns) (without_rowid id rows))
      × (in_order t (put_row (Int id ∷ columns) (without_rowid id rows)) ≡ with_row t.cmp (t.value (Int id ∷ columns)) (in_order t rows))
  row_replaced id old columns rows are was is_typed tie =
      let new : Row = Int id ∷ columns in
      let rest = without_rowid id rows in
      let rising = ascending-filter _ _ rows are.rising in
      let there = IsPermutation-map t.value _ _ (IsPermutation-sym _ _ (put_in_place id columns rows are.rising)) in
      let it = replaces t.cmp t.total (t.value old) (t.value new) (map t.value rest) (map t.value rows)
      (map t.value (put_row new rest)) are.keyed (IsPermutation-map t.value _ _ was) there tie in (
        record {
          rising = IsTable-put_row new rest rising;
          numbered = all-put_row _ new rest refl (all-filter _ _ rows are.numbered);
          typed = all-put_row t.Typed new rest is_typed (all-filter t.Typed _ rows are.typed);
          keyed = it.0;
        },
        it.1,
      )
