-- A table of the office as what its rows stand for, in the order of their key, and the validity rows beside it.
use Rattle.std.proofs.Common.{◌≡◌, ◌∷◌, ◌++◌, ◌&&◌, Ordering}
use Rattle.text_core.proofs.Kit.{ℕ, ℤ, Bool, true, List, [], map, filter, ap, ap₂, ◌∙◌, Equal, Option, bytes_eq, on, IsTotalOrder, on_total, and-true}
use Rattle.office_sql.proofs.Kit.{Int, Row, column, bytes, is_true, Eq, Compare, Term, Env, col, key_cmp, key_cmp_total, inner, end, output, output_cmp}
use Rattle.office_sql.proofs.Kit.{IsAnswer, Trees, Binary, Key, ascending, sort_by}
use Rattle.sqlite.specs.Ops.{binary}
use Rattle.sqlite.specs.Query.{Query}
use Rattle.office_sql.specs.Prelude.{OfficeTable, tree_of, rows_in, is_same, over, passes_join, not_before_in_rows, AreRows, AreRowsOf, HaveOneValidityRow}
use Rattle.office_sql.specs.Prelude.{IsText, IsValidityRow}
use Rattle.office_sql.proofs.Values.{text_is}

-- rows are compared by these columns, one after another
abbrev pub by_columns : List ℕ → Row → Row → Ordering
by_columns places = on (λ r. map (column r) places) (key_cmp 0 (map (λ _. ascending Binary) places))

pub by_columns_total : (places : List ℕ) → IsTotalOrder (by_columns places)
by_columns_total places = on_total (λ r. map (column r) places) (key_cmp_total (map (λ _. ascending Binary) places) 0)

-- a query sorts by these columns of its first table
abbrev pub by_key : List ℕ → List (Term × Key)
by_key places = map (λ p. (col 1 p, ascending Binary)) places

-- a table whose rows stand for values: what is asked of a row's columns, the value, the order of the values, and the columns of their key
pub record TableOf (A : Type 0) : Type 1 where
  pub name : OfficeTable
  pub Typed : Row → Type 0
  pub cmp : A → A → Ordering
  pub total : IsTotalOrder cmp
  pub value : Row → A
  pub key : List ℕ
  pub compared : (a b : Row) → Typed a → Typed b → by_columns key a b ≡ cmp (value a) (value b)
  pub from_office : (rows : List Row) → AreRowsOf name rows → AreRows Typed cmp value rows
  pub for_office : (rows : List Row) → AreRows Typed cmp value rows → AreRowsOf name rows

-- the rows are those of the table
abbrev pub AreRowsAs : {A : Type 0} → TableOf A → List Row → Type 0
AreRowsAs t = AreRows t.Typed t.cmp t.value

-- what the rows stand for, in the order of the key
abbrev pub in_order : {A : Type 0} → TableOf A → List Row → List A
in_order t rows = sort_by t.cmp (map t.value rows)

-- a query sorts by the key
abbrev pub shown_by_key : {A : Type 0} → TableOf A → List Term → Query
shown_by_key t shown = over end [] shown (by_key t.key)

-- how its answer compares what it sees of two rows
abbrev pub answer_cmp : {A : Type 0} → TableOf A → List Term → Env → Env → Ordering
answer_cmp t shown x y = output_cmp (shown_by_key t shown) (output (shown_by_key t shown) x) (output (shown_by_key t shown) y)

-- ---- validity rows

-- the columns of a row and of its validity row that are one key
abbrev pub on_validity_key : List Term
on_validity_key = is_same 1 1 ∷ is_same 2 2 ∷ []

-- they are the same texts
pub key_fits : (params r s : Row) → IsText 1 r → IsText 2 r → IsValidityRow s
    → passes_join on_validity_key params r s
    ≡ (bytes_eq (bytes (column r 1)) (bytes (column s 1)) && bytes_eq (bytes (column r 2)) (bytes (column s 2)))
key_fits params r s first second texts =
    ap₂ ◌&&◌ (ap (λ v. is_true (binary (Compare Eq Binary) (column s 1) v)) first ∙ text_is (column s 1) _ texts.0)
    (and-true _ ∙ ap (λ v. is_true (binary (Compare Eq Binary) (column s 2) v)) second ∙ text_is (column s 2) _ texts.1)

-- the table that has one validity row for each row: which is whose, the value with the text that it tells, and the columns of its own
pub record HasValidity {A : Type 0} (t : TableOf A) : Type 0 where
  pub side : OfficeTable
  pub is_for : A → Row → Bool
  pub with_text : Option (List ℕ) → A → A
  pub columns : A → Row
  pub own : (a : A) (id : ℤ) → is_for a (Int id ∷ columns a) ≡ true
  pub unread : (u v : Option (List ℕ)) (a b : A) → t.cmp (with_text u a) (with_text v b) ≡ t.cmp a b
  pub ties : (a b : A) (s : Row) → is_for a s ≡ true → is_for b s ≡ true → t.cmp a b ≡ Equal
  pub fits : (params r s : Row) → t.Typed r → IsValidityRow s → passes_join on_validity_key params r s ≡ is_for (t.value r) s

-- the value with the text that one of these rows has for it
abbrev pub with_not_before : {A : Type 0} {t : TableOf A} → HasValidity t → List Row → A → A
with_not_before v validities a = v.with_text (not_before_in_rows v.is_for validities a) a

-- a query over the table and its validity rows
abbrev pub joined_query : {A : Type 0} (t : TableOf A) → HasValidity t → List Term → List Term → Query
joined_query t v tests shown = over (inner (tree_of t.name) (inner (tree_of v.side) end)) (on_validity_key ++ tests) shown (by_key t.key)

-- what is read of the rows that it shows is what the test keeps of the table, in the order of its key, with what the validity rows tell
abbrev pub ShowsJoined : {A : Type 0} (t : TableOf A) → HasValidity t → List Term → List Term → Row → (Row → A) → (A → Bool) → Type 0
ShowsJoined t v tests shown params read p =
    (db : Trees) (rows : List Row) → AreRowsAs t (rows_in db t.name)
    → HaveOneValidityRow v.is_for t.value (rows_in db t.name) (rows_in db v.side)
    → IsAnswer (joined_query t v tests shown) db params rows
    → map read rows ≡ filter p (map (with_not_before v (rows_in db v.side)) (in_order t (rows_in db t.name)))
