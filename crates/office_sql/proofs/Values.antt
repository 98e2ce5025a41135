-- The tests of SQL on columns of one kind, and their order.
use Rattle.std.proofs.Common.{◌≡◌, Ordering}
use Rattle.text_core.proofs.Kit.{ℕ, ℤ, Bool, true, false, List, refl, ap, ap₂, ◌∙◌, is_eq, Some, bytes_eq, nat_cmp, slice_cmp, nat_list_eq_equiv, tied_itself}
use Rattle.text_core.proofs.Kit.{Less, Equal, Greater, is_gt, is_lt, nat_list_cmp_total, ordering_reverse, is_eq-slice_cmp, IsTotalOrder}
use Rattle.office_sql.proofs.Kit.{Value, Null, Int, bytes, is_true, from_truth, Eq, Gt, Compare, Is, Binary, value_cmp_total, value_cmp-apart, value_cmp-Text}
use Rattle.office_sql.proofs.Kit.{value_cmp-Blob, Row}
use Rattle.sqlite.specs.declared.types.Value.TheVariants.{Text as Words, Blob as Bytes}
use Rattle.sqlite.specs.Order.{value_cmp}
use Rattle.sqlite.specs.Ops.{binary}

pub told : (b : Bool) → is_true (from_truth (Some b)) ≡ b
told true = refl
told false = refl

words_are : (s t : List ℕ) → is_true (binary (Compare Eq Binary) (Words s) (Words t)) ≡ bytes_eq t s
unfolding binary
words_are s t = told _ ∙ ap is_eq (value_cmp-Text s t) ∙ is_eq-slice_cmp s t ∙ nat_list_eq_equiv.symm s t

blobs_are : (s t : List ℕ) → is_true (binary (Compare Eq Binary) (Bytes s) (Bytes t)) ≡ bytes_eq t s
unfolding binary
blobs_are s t = told _ ∙ ap is_eq (value_cmp-Blob s t) ∙ is_eq-slice_cmp s t ∙ nat_list_eq_equiv.symm s t

reversed : (o : Ordering) → is_gt (ordering_reverse o) ≡ is_lt o
reversed Less = refl
reversed Equal = refl
reversed Greater = refl

words_above : (s t : List ℕ) → is_true (binary (Compare Gt Binary) (Words s) (Words t)) ≡ is_lt (slice_cmp nat_cmp t s)
unfolding binary
words_above s t = told _ ∙ ap is_gt (value_cmp-Text s t ∙ nat_list_cmp_total.antisymm s t) ∙ reversed (slice_cmp nat_cmp t s)

-- a column that is a text is greater than a text where that comes before its bytes
pub text_above : (v : Value) (t : List ℕ) → v ≡ Words (bytes v) → is_true (binary (Compare Gt Binary) v (Words t)) ≡ is_lt (slice_cmp nat_cmp t (bytes v))
text_above v t e = ap (λ w. is_true (binary (Compare Gt Binary) w (Words t))) e ∙ words_above (bytes v) t

-- a column that is a text equals a text where its bytes do
pub text_is : (v : Value) (t : List ℕ) → v ≡ Words (bytes v) → is_true (binary (Compare Eq Binary) v (Words t)) ≡ bytes_eq t (bytes v)
text_is v t e = ap (λ w. is_true (binary (Compare Eq Binary) w (Words t))) e ∙ words_are (bytes v) t

pub blob_is : (v : Value) (t : List ℕ) → v ≡ Bytes (bytes v) → is_true (binary (Compare Eq Binary) v (Bytes t)) ≡ bytes_eq t (bytes v)
blob_is v t e = ap (λ w. is_true (binary (Compare Eq Binary) w (Bytes t))) e ∙ blobs_are (bytes v) t

-- rows that no key tells apart
pub level_total : IsTotalOrder (λ (a b : Row). Equal)
level_total = record { antisymm = λ _ _. refl; trans = λ x y z p q. p; congr = λ x y z p. refl }

-- columns of one kind are in the order of what they stand for
pub texts_cmp : (v w : Value) → v ≡ Words (bytes v) → w ≡ Words (bytes w) → value_cmp v w ≡ slice_cmp nat_cmp (bytes v) (bytes w)
texts_cmp v w e f = ap₂ value_cmp e f ∙ value_cmp-Text _ _

pub blobs_cmp : (v w : Value) → v ≡ Bytes (bytes v) → w ≡ Bytes (bytes w) → value_cmp v w ≡ slice_cmp nat_cmp (bytes v) (bytes w)
blobs_cmp v w e f = ap₂ value_cmp e f ∙ value_cmp-Blob _ _

-- the tests of a number that is written out, and of IS NULL
pub is_itself : (n : ℤ) → is_true (binary (Compare Eq Binary) (Int n) (Int n)) ≡ true
unfolding binary
is_itself n = told _ ∙ ap is_eq (tied_itself value_cmp_total (Int n))

pub null_is : is_true (binary (Is Binary) Null Null) ≡ true
unfolding binary
null_is = told _ ∙ ap is_eq (tied_itself value_cmp_total Null)

pub text_is_there : (t : List ℕ) → is_true (binary (Is Binary) (Words t) Null) ≡ false
unfolding binary
text_is_there t = told _ ∙ ap is_eq (value_cmp-apart (Words t) Null (λ e. absurd cc))
