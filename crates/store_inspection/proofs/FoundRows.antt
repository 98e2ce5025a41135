-- What the rules of a schema say of the columns of a row, and of rows whose keys may not agree.
use Rattle.std.proofs.Common.{◌≡◌, ◌+◌, ◌&&◌, ◌==◌, ◌||◌, ◌∷◌, Ordering}
use Rattle.text_core.proofs.Kit.{ℕ, zero, suc, Bool, true, false, not, cond, List, [], drop, Option, refl, sym, ap, subst, ◌∙◌, inl, inr, true≢false, IsTrue}
use Rattle.text_core.proofs.Kit.{pos, negsuc, is_eq, is_lt, Less, Equal, Greater, nat_cmp, arith, AllByRecursion, list_any, ordering_reverse, ordering_then}
use Rattle.text_core.proofs.Kit.{slice_cmp, cases_Bool, nat_tests, ints, is_eq-slice_cmp, and_parts}
use Rattle.office_sql.proofs.Kit.{Value, Null, Int, Real, Row, column, bytes, Trees, rowid, IsShaped, is_int, is_null, Kind, Column, Table, Schema, Datatype}
use Rattle.office_sql.proofs.Kit.{NotNull, is_key, is_of, are_typed, are_present, passes, agree, differ, equal, clashes, has_affinity, Ne, Binary, plain}
use Rattle.office_sql.proofs.Kit.{first_key-plain, value_cmp_total, value_cmp-Int, Has, all_has, all_from, some_from, ascending-map}
use Rattle.sqlite.specs.declared.types.Value.TheVariants.{Text as Words, Blob as Bytes}
use Rattle.sqlite.specs.Order.{value_cmp}
use Rattle.sqlite_trees.specs.declared.store.Shape.TheVariants as shape
use Rattle.sqlite.specs.Ops.{binary}
use Rattle.sqlite_schema.specs.declared.schema.Kind.TheVariants as kind
use Rattle.sqlite_value.specs.Keys.{first_key}
use Rattle.office_sql.specs.Prelude.{number_in_cell, text_if, text_value, AreRows, IsText, IsBlob, IsTextIf}
use Rattle.store_inspection.specs.Prelude.{is_below}
use Rattle.office_sql.proofs.Kept.{narrowed}
use Rattle.office_sql.proofs.Values.{text_is, blob_is}
use Rattle.office_sql.proofs.MapValues.{whole_is}

-- ---- one column

-- the column is of this kind, and isn't the rowid
abbrev pub IsKind : Option ℕ → ℕ → List Column → ℕ → Kind → Type 0
IsKind key at [] i k = ⊥
IsKind key at (c ∷ cs) zero k = (c.kind ≡ k) × (c.is_strict ≡ true) × (is_key key at ≡ false)
IsKind key at (c ∷ cs) (suc i) k = IsKind key (at + 1) cs i k

-- the column may not be NULL
abbrev pub IsRequired : Option ℕ → ℕ → List Column → ℕ → Type 0
IsRequired key at [] i = ⊥
IsRequired key at (c ∷ cs) zero = (c.not_null ≡ true) × (is_key key at ≡ false)
IsRequired key at (c ∷ cs) (suc i) = IsRequired key (at + 1) cs i

strict_one : (low strict : Bool) (null k a : Bool) → low ≡ false → strict ≡ true → cond low null (cond strict k a) ≡ true → k ≡ true
strict_one true strict null k a h s e = absurd (true≢false h)
strict_one false true null k a h s e = e
strict_one false false null k a h s e = absurd (true≢false (sym s))

pub typed_at : (key : Option ℕ) (at : ℕ) (cs : List Column) (i : ℕ) (k : Kind) → IsKind key at cs i k
    → (vs : Row) → are_typed key at cs vs ≡ true → is_of k (column vs i) ≡ true
typed_at key at [] i k is vs h = absurd is
typed_at key at (c ∷ cs) zero k is [] h = refl
typed_at key at (c ∷ cs) zero k is (v ∷ vs) h =
    subst (λ k. is_of k v ≡ true) is.0
    (strict_one (is_key key at) c.is_strict (is_null v) (is_of c.kind v) (has_affinity c.kind v) is.2 is.1 (and_parts _ _ h).0)
typed_at key at (c ∷ cs) (suc i) k is [] h = refl
typed_at key at (c ∷ cs) (suc i) k is (v ∷ vs) h = typed_at key (at + 1) cs i k is vs (and_parts _ _ h).1

required_one : (low must there : Bool) → low ≡ false → must ≡ true → (low || not must || there) ≡ true → there ≡ true
required_one true must there h m e = absurd (true≢false h)
required_one false true there h m e = e
required_one false false there h m e = absurd (true≢false (sym m))

present_at : (key : Option ℕ) (at : ℕ) (cs : List Column) (i : ℕ) → IsRequired key at cs i
    → (row : Row) → are_present key at cs row ≡ true
    → not (is_null (column row (at + i + 1))) ≡ true
present_at key at [] i is row h = absurd is
present_at key at (c ∷ cs) zero is row h =
    let here = required_one (is_key key at) c.not_null (not (is_null (column row (at + 1)))) is.1 is.0 (and_parts _ _ h).0 in
    let same : at + 1 ≡ at + 0 + 1 = omega arith in
    subst (λ p. not (is_null (column row p)) ≡ true) same here
present_at key at (c ∷ cs) (suc i) is row h =
    let same : at + 1 + i + 1 ≡ at + suc i + 1 = omega arith in
    subst (λ p. not (is_null (column row p)) ≡ true) same (present_at key (at + 1) cs i is row (and_parts _ _ h).1)

pub dropped : (row : Row) (i : ℕ) → column (drop 1 row) i ≡ column row (suc i)
dropped [] zero = refl
dropped [] (suc i) = refl
dropped (v ∷ row) i = refl

text_of : (v : Value) → is_of kind.Text v ≡ true → not (is_null v) ≡ true → v ≡ Words (bytes v)
text_of Null d n = absurd (true≢false (sym n))
text_of (Words t) d n = refl
text_of _ d n = absurd (true≢false (sym d))

blob_of : (v : Value) → is_of kind.Blob v ≡ true → not (is_null v) ≡ true → v ≡ Bytes (bytes v)
blob_of Null d n = absurd (true≢false (sym n))
blob_of (Bytes b) d n = refl
blob_of _ d n = absurd (true≢false (sym d))

text_if_of : (v : Value) → is_of kind.Text v ≡ true → v ≡ text_value (text_if v)
text_if_of Null d = refl
text_if_of (Words t) d = refl
text_if_of _ d = absurd (true≢false (sym d))

int_of : (v : Value) → is_of kind.Integer v ≡ true → not (is_null v) ≡ true → IsTrue (is_int v)
int_of Null d n = absurd (true≢false (sym n))
int_of (Int m) d n = refl
int_of _ d n = absurd (true≢false (sym d))

pub whole_of : (v : Value) → IsTrue (is_int v) → is_below v ≡ false → v ≡ Int (pos (number_in_cell v))
whole_of (Int (pos m)) d n = refl
whole_of (Int (negsuc m)) d n =
    let low : value_cmp (Int (negsuc m)) (Int (pos 0)) ≡ Less = value_cmp-Int (negsuc m) (pos 0) ∙ grind (arith, ints, nat_tests) in
    absurd (true≢false (sym (ap is_lt low) ∙ n))
whole_of _ d n = absurd (true≢false (sym d))

module _ (schema : Schema) (db : Trees) (table : Table) (r : Row) (typed : passes Datatype schema db table r ≡ true) where
  kind_at : (i : ℕ) (k : Kind) → IsKind table.key 0 table.columns i k → is_of k (column r (suc i)) ≡ true
  kind_at i k is = subst (λ v. is_of k v ≡ true) (dropped r i) (typed_at table.key 0 table.columns i k is (drop 1 r) (and_parts _ _ typed).0)

  pub text_if_at : (i : ℕ) → IsKind table.key 0 table.columns i kind.Text → IsTextIf (suc i) r
  text_if_at i is = text_if_of (column r (suc i)) (kind_at i kind.Text is)

  module _ (present : passes NotNull schema db table r ≡ true) where
    there_at : (i : ℕ) → IsRequired table.key 0 table.columns i → not (is_null (column r (suc i))) ≡ true
    there_at i is =
        let same : 0 + i + 1 ≡ suc i = omega arith in
        subst (λ p. not (is_null (column r p)) ≡ true) same (present_at table.key 0 table.columns i is r present)

    pub text_at : (i : ℕ) → IsKind table.key 0 table.columns i kind.Text → IsRequired table.key 0 table.columns i → IsText (suc i) r
    text_at i is must = text_of (column r (suc i)) (kind_at i kind.Text is) (there_at i must)

    pub blob_at : (i : ℕ) → IsKind table.key 0 table.columns i kind.Blob → IsRequired table.key 0 table.columns i → IsBlob (suc i) r
    blob_at i is must = blob_of (column r (suc i)) (kind_at i kind.Blob is) (there_at i must)

    pub int_at : (i : ℕ) → IsKind table.key 0 table.columns i kind.Integer → IsRequired table.key 0 table.columns i → IsTrue (is_int (column r (suc i)))
    int_at i is must = int_of (column r (suc i)) (kind_at i kind.Integer is) (there_at i must)

-- ---- two rows whose keys agree

key_equal : (v w : Value) → equal Binary v w ≡ equal (first_key plain).collation v w
key_equal v w = ap (λ k. equal k.collation v w) (sym first_key-plain)

pub texts_tie : (v w : Value) → v ≡ Words (bytes v) → w ≡ Words (bytes w)
    → is_eq (slice_cmp nat_cmp (bytes v) (bytes w)) ≡ equal (first_key plain).collation w v
texts_tie v w e f = is_eq-slice_cmp (bytes v) (bytes w) ∙ sym (text_is w (bytes v) f) ∙ ap (equal Binary w) (sym e) ∙ key_equal w v

pub blobs_tie : (v w : Value) → v ≡ Bytes (bytes v) → w ≡ Bytes (bytes w)
    → is_eq (slice_cmp nat_cmp (bytes v) (bytes w)) ≡ equal (first_key plain).collation w v
blobs_tie v w e f = is_eq-slice_cmp (bytes v) (bytes w) ∙ sym (blob_is w (bytes v) f) ∙ ap (equal Binary w) (sym e) ∙ key_equal w v

pub wholes_tie : (v w : Value) → v ≡ Int (pos (number_in_cell v)) → w ≡ Int (pos (number_in_cell w))
    → is_eq (nat_cmp (number_in_cell v) (number_in_cell w)) ≡ equal (first_key plain).collation w v
wholes_tie v w e f = turned (number_in_cell v) (number_in_cell w) ∙ sym (whole_is w (number_in_cell v) f) ∙ ap (equal Binary w) (sym e) ∙ key_equal w v
  where
    turned : (m n : ℕ) → is_eq (nat_cmp m n) ≡ (m == n)
    turned m n = grind (arith, nat_tests)

pub then_ties : (o p : Ordering) (b c : Bool) → is_eq o ≡ b → is_eq p ≡ c → is_eq (ordering_then o p) ≡ (b && c)
then_ties Equal p b c e f = f ∙ ap (λ b. b && c) e
then_ties _ p b c e f = ap (λ b. b && c) e

pub last_ties : (o : Ordering) (b : Bool) → is_eq o ≡ b → is_eq o ≡ (b && true)
last_ties o true e = e
last_ties o false e = e

pub entry_ties : (o p q : Ordering) (b c d : Bool) → is_eq o ≡ b → is_eq p ≡ c → is_eq q ≡ d
    → is_eq (ordering_then (ordering_then o p) q) ≡ (b && (c && (d && true)))
entry_ties Equal p q b c d e f g = then_ties p q c (d && true) f (last_ties q d g) ∙ ap (λ b. b && (c && (d && true))) e
entry_ties _ p q b c d e f g = ap (λ b. b && (c && (d && true))) e

-- ---- the rows of one table

numbers_differ : (a b : Value) → IsTrue (is_int a) → IsTrue (is_int b) → value_cmp a b ≡ Less → differ b a ≡ true
unfolding binary
numbers_differ (Int m) (Int n) p q low = ap (λ o.
    Rattle.sqlite.specs.Ops.is_true
    (Rattle.sqlite.specs.Ops.from_truth
    (Rattle.std.proofs.Common.Some (Rattle.sqlite_sql.specs.Ops.test Ne o))))
    (value_cmp_total.antisymm (Int n) (Int m) ∙ ap ordering_reverse low)
numbers_differ (Int m) _ p q low = absurd (true≢false (sym q))
numbers_differ _ b p q low = absurd (true≢false (sym p))

none_of : {A : Type 0} (p : A → Bool) (xs : List A) (x : A) → list_any p xs ≡ false → Has xs x → p x ≡ false
none_of p xs x none has = elim (cases_Bool (p x)) [ inl there ↦ absurd (true≢false (sym (some_from p xs x has there) ∙ none)) | inr away ↦ away ]

never_with : (p q : Bool) → (p && q) ≡ false → q ≡ true → p ≡ false
never_with true q h e = absurd (true≢false (sym e ∙ h))
never_with false q h e = refl

module _ {A : Type 0} (places : List ℕ) (Typed : Row → Type 0) (cmp : A → A → Ordering) (value : Row → A)
    (ties : (a b : Row) → Typed a → Typed b → is_eq (cmp (value a) (value b)) ≡ agree plain places b places a) where
  abbrev IsOne : List Row → Row → Type 0
  IsOne rows r = Typed r × IsTrue (is_int (rowid r)) × Has rows r × (clashes plain places rows r ≡ false)

  -- rows of rowids that differ have keys that differ
  apart : (rows : List Row) (a b : Row) → IsOne rows a → IsOne rows b → value_cmp (rowid a) (rowid b) ≡ Less → is_eq (cmp (value a) (value b)) ≡ false
  apart rows a b ka kb low =
      let never = none_of (λ other. agree plain places other places a && differ (rowid other) (rowid a)) rows b ka.3 kb.2 in
      ties a b ka.0 kb.0 ∙ never_with _ _ never (numbers_differ (rowid a) (rowid b) ka.1 kb.1 low)

  -- rows of which none clashes with another are those of a table with this key
  pub rows_found : (rows : List Row) → IsShaped shape.Table rows → AllByRecursion Typed rows
      → AllByRecursion (λ r. clashes plain places rows r ≡ false) rows
      → AreRows Typed cmp value rows
  rows_found rows shaped typed free =
      let each : AllByRecursion (IsOne rows) rows = all_from (IsOne rows) rows (λ r h.
      (all_has _ rows r typed h, all_has _ rows r shaped.1 h, h, all_has _ rows r free h)) in
      record {
        rising = shaped.0;
        numbered = shaped.1;
        typed = typed;
        keyed = ascending-map (λ a b. is_eq (cmp a b) ≡ false) value rows (narrowed (IsOne rows) _ _ (apart rows) rows each shaped.0);
      }
