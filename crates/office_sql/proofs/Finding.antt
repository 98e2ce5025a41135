-- What is found among rows in order, and rows with one key.
use Rattle.std.proofs.Common.{◌≡◌, ◌∷◌, ◌&&◌, Ordering}
use Rattle.text_core.proofs.Kit.{map, ℕ, Bool, true, false, List, [], filter, find, slice_get, IsPermutation, Some, None, refl, ap, ap₂, subst, sym, ◌∙◌, Less}
use Rattle.text_core.proofs.Kit.{Equal, Greater, is_eq, true≢false, AllByRecursion, bytes_eq, nat_cmp, IsTotalOrder, slice_cmp, nat_list_eq_equiv}
use Rattle.text_core.proofs.Kit.{is_eq-slice_cmp, IsPermutation-refl, and_parts, ordering_then, tied_then}
use Rattle.office_tables.proofs.Finding.{none_passes, find_none}
use Rattle.office_sql.proofs.Kit.{sort_by, IsPermutation-sort_by, all-permutation, filter-map, slice_get-filter, sorted_from_ascending, Row}
use Rattle.office_sql.specs.Prelude.{AreKeyed}
use Rattle.office_sql.proofs.Keyed.{all_sorted, kept_sorted}

module _ {A : Type 0} (cmp : A → A → Ordering) (total : IsTotalOrder cmp) (p : A → Bool) (xs : List A) where
  -- a key that isn't found is no row's
  pub unkeyed : find p (sort_by cmp xs) ≡ None → AllByRecursion (λ x. p x ≡ false) xs
  unkeyed none = all-permutation (λ x. p x ≡ false) _ _ (IsPermutation-sort_by cmp total xs) (none_passes p _ none)

  -- a key that is no row's isn't found
  pub unfound : AllByRecursion (λ x. p x ≡ false) xs → find p (sort_by cmp xs) ≡ None
  unfound all = find_none p _ (all_sorted cmp total (λ x. p x ≡ false) xs all)

alike : (o : Ordering) → is_eq o ≡ true → o ≡ Equal
alike Less h = absurd (true≢false (sym h))
alike Equal h = refl
alike Greater h = absurd (true≢false (sym h))

-- texts that a third equals are equal
pub texts_tied : (c a b : List ℕ) → bytes_eq c a ≡ true → bytes_eq c b ≡ true → slice_cmp nat_cmp a b ≡ Equal
texts_tied c a b p q = alike _ (is_eq-slice_cmp a b ∙ sym (nat_list_eq_equiv.congr c a b p) ∙ q)

texts_alike : (a b t : List ℕ) → bytes_eq a t ≡ true → bytes_eq b t ≡ true → slice_cmp nat_cmp a b ≡ Equal
texts_alike a b t e f = texts_tied t a b (nat_list_eq_equiv.symm t a ∙ e) (nat_list_eq_equiv.symm t b ∙ f)

-- keys of two texts are equal where both texts are
pub texts_same : (a b x y : List ℕ) → is_eq (ordering_then (slice_cmp nat_cmp a x) (slice_cmp nat_cmp b y)) ≡ (bytes_eq a x && bytes_eq b y)
texts_same a b x y = sym (tied_then _ _) ∙ ap₂ ◌&&◌ (is_eq-slice_cmp a x) (is_eq-slice_cmp b y)

-- keys of two texts that two others equal are equal
pub keys_tied : (c d a b x y : List ℕ) → (bytes_eq c a && bytes_eq d b) ≡ true → (bytes_eq c x && bytes_eq d y) ≡ true
    → ordering_then (slice_cmp nat_cmp a x) (slice_cmp nat_cmp b y) ≡ Equal
keys_tied c d a b x y e f =
    let p = and_parts _ _ e in
    let q = and_parts _ _ f in
    ap₂ ordering_then (texts_tied c a x p.0 q.0) (texts_tied d b y p.1 q.1)

-- those that equal two others are, too
pub keys_alike : (a b x y c d : List ℕ) → (bytes_eq a c && bytes_eq b d) ≡ true → (bytes_eq x c && bytes_eq y d) ≡ true
    → ordering_then (slice_cmp nat_cmp a x) (slice_cmp nat_cmp b y) ≡ Equal
keys_alike a b x y c d e f =
    let p = and_parts _ _ e in
    let q = and_parts _ _ f in
    ap₂ ordering_then (texts_alike a x c p.0 q.0) (texts_alike b y d p.1 q.1)

module _ {A : Type 0} (cmp : A → A → Ordering) (total : IsTotalOrder cmp) (value : Row → A) (p : A → Bool) where
  -- the one row that passes is found
  pub only_found : (rows : List Row) (r : Row) → AreKeyed cmp (map value rows)
      → filter (λ x. p (value x)) rows ≡ r ∷ []
      → find p (sort_by cmp (map value rows)) ≡ Some (value r)
  only_found rows r keyed one =
      let kept : filter p (map value rows) ≡ value r ∷ [] = filter-map p value rows ∙ ap (map value) one in
      sym (slice_get-filter p (sort_by cmp (map value rows)))
      ∙ ap (λ l.
      slice_get l 0) (kept_sorted cmp total p (map value rows) (value r
      ∷ []) keyed (subst (λ l.
      IsPermutation l (value r
      ∷ [])) (sym kept) (IsPermutation-refl _)) (sorted_from_ascending cmp total (value r
      ∷ []) (tt, tt)))
