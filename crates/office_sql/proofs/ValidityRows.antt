-- A row more with its validity row, and a row in place of one with the same key: each row has exactly one validity row still.
use Rattle.std.proofs.Common.{◌≡◌, ◌∷◌}
use Rattle.text_core.proofs.Kit.{List, [], filter, find, length, slice_get, Bool, true, false, cond, Some, refl, sym, ap, subst, ◌∙◌, IsPermutation, IsTrue}
use Rattle.text_core.proofs.Kit.{true≢false, arith, is_some, AllByRecursion, length_permutation}
use Rattle.office_sql.proofs.Kit.{Row, is_int, IsTable, rowid, one_permutation, slice_get-filter, all_both, all-permutation, filter_none}
use Rattle.sqlite_trees.proofs.ListLemmas.{all_weaker, IsPermutation-filter}
use Rattle.office_sql.specs.Prelude.{HaveOneValidityRow, HasOne, IsText}

-- what is found is found in any order
found_along : (p : Row → Bool) (xs ys : List Row) → IsPermutation xs ys → is_some (find p xs) ≡ true → is_some (find p ys) ≡ true
found_along p xs ys same some =
    sym (ap is_some (slice_get-filter p ys))
    ∙ go (filter p xs) (filter p ys)
    (length_permutation _ _ (IsPermutation-filter p xs ys same))
    (ap is_some (slice_get-filter p xs) ∙ some)
  where
    go : (l k : List Row) → length k ≡ length l → is_some (slice_get l 0) ≡ true → is_some (slice_get k 0) ≡ true
    go [] k e h = absurd (true≢false (sym h))
    go (x ∷ l) [] e h = absurd (omega (arith, e))
    go (x ∷ l) (y ∷ k) e h = refl

-- the first that passes is found
pub first_found : (p : Row → Bool) (rows more : List Row) (s : Row) → filter p rows ≡ s ∷ more → find p rows ≡ Some s
first_found p rows more s e = sym (slice_get-filter p rows) ∙ ap (λ l. slice_get l 0) e

module _ {A : Type 0} (value : Row → A) (is_for : A → Row → Bool) where
  -- a row more and its validity row
  pub record Added (r s : Row) (rows validities rows2 validities2 : List Row) : Type 0 where
    pub validity : HaveOneValidityRow is_for value rows2 validities2
    pub its : find (is_for (value r)) validities2 ≡ Some s
    pub others : AllByRecursion (λ x. find (is_for (value x)) validities2 ≡ find (is_for (value x)) validities) rows

  pub validity_added : (r s : Row) (rows validities rows2 validities2 : List Row)
      → HaveOneValidityRow is_for value rows validities → IsPermutation (r ∷ rows) rows2
      → IsPermutation (s ∷ validities) validities2
      → IsTable validities2 → AllByRecursion (λ t. IsTrue (is_int (rowid t))) validities2 → IsText 1 s × IsText 2 s
      → is_for (value r) s ≡ true → AllByRecursion (λ t. is_for (value r) t ≡ false) validities
      → AllByRecursion (λ x. is_for (value x) s ≡ false) rows
      → Added r s rows validities rows2 validities2
  validity_added r s rows validities rows2 validities2 was more_rows more_validities up whole texts its none_its not_others =
      let alone : filter (is_for (value r)) (s ∷ validities) ≡ s ∷ [] = rw its (ap (λ l. s ∷ l) (filter_none (is_for (value r)) validities none_its)) in
      let there : filter (is_for (value r)) validities2 ≡ s ∷ [] = along (value r) s alone in
      let old : AllByRecursion (λ x. (h : HasOne is_for validities (value x)) × (filter (is_for (value x)) validities2 ≡ h.0 ∷ [])) rows =
      all_both (λ x. HasOne is_for validities (value x)) (λ x. is_for (value x) s
      ≡ false) _ (λ x h e. (h, along (value x) h.0 (rw e h.1))) rows was.one not_others in
      record {
        validity = record {
          rising = up;
          numbered = whole;
          typed = all-permutation (λ t. IsText 1 t × IsText 2 t) (s ∷ validities) validities2 more_validities (texts, was.typed);
          one = all-permutation (λ x. HasOne is_for validities2 (value x)) (r
              ∷ rows) rows2 more_rows (
                (s, there),
                all_weaker _ (λ x.
                    HasOne is_for validities2 (value x)) (λ x h. (h.0.0, h.1)) rows old,
              );
          for_one = all-permutation (λ t. is_some (find (λ x. is_for (value x) t) rows2) ≡ true) (s ∷ validities) validities2 more_validities (
            found_along (λ x. is_for (value x) s) (r ∷ rows) rows2 more_rows (rw its refl),
            all_weaker (λ t. is_some (find (λ x. is_for (value x) t) rows)
                ≡ true) _ (λ t h.
                found_along (λ x. is_for (value x) t) (r
                ∷ rows) rows2 more_rows (later t h)) validities was.for_one,
          );
        };
        its = first_found (is_for (value r)) validities2 [] s there;
        others = all_weaker _ (λ x. find (is_for (value x)) validities2
            ≡ find (is_for (value x)) validities) (λ x h.
            first_found (is_for (value x)) validities2 [] h.0.0 h.1
            ∙ sym (first_found (is_for (value x)) validities [] h.0.0 h.0.1)) rows old;
      }
    where
      along : (a : A) (t : Row) → filter (is_for a) (s ∷ validities) ≡ t ∷ [] → filter (is_for a) validities2 ≡ t ∷ []
      along a t e = one_permutation t _ (subst (λ l.
          IsPermutation l (filter (is_for a) validities2)) e (IsPermutation-filter (is_for a) (s
          ∷ validities) validities2 more_validities))

      later : (t : Row) → is_some (find (λ x. is_for (value x) t) rows) ≡ true → is_some (find (λ x. is_for (value x) t) (r ∷ rows)) ≡ true
      later t h = elim (is_for (value r) t) as (λ b. is_some (cond b (Some r) (find (λ x. is_for (value x) t) rows)) ≡ true) [ true ↦ refl | false ↦ h ]

  -- a row in place of one that has the same validity rows
  pub validity_kept : (old new : Row) (rest rows rows2 validities : List Row)
      → HaveOneValidityRow is_for value rows validities → IsPermutation rows (old ∷ rest)
      → IsPermutation (new ∷ rest) rows2
      → ((t : Row) → is_for (value new) t ≡ is_for (value old) t) → HaveOneValidityRow is_for value rows2 validities
  validity_kept old new rest rows rows2 validities was split made same =
      let one = all-permutation (λ x. HasOne is_for validities (value x)) rows (old ∷ rest) split was.one in
      record {
        rising = was.rising;
        numbered = was.numbered;
        typed = was.typed;
        one = all-permutation (λ x. HasOne is_for validities (value x)) (new
            ∷ rest) rows2 made (
              (
                one.0.0,
                ap (λ (p : Row → Bool). filter p validities) (λ i t. same t i)
                    ∙ one.0.1,
              ),
              one.1,
            );
        for_one = all_weaker (λ t. is_some (find (λ x. is_for (value x) t) rows) ≡ true) _
            (λ t h. found_along (λ x. is_for (value x) t) (new
            ∷ rest) rows2 made (first t (found_along (λ x. is_for (value x) t) rows (old
            ∷ rest) split h))) validities was.for_one;
      }
    where
      first : (t : Row) → is_some (find (λ x. is_for (value x) t) (old ∷ rest)) ≡ true → is_some (find (λ x. is_for (value x) t) (new ∷ rest)) ≡ true
      first t h = subst (λ b. is_some (cond b (Some new) (find (λ x. is_for (value x) t) rest)) ≡ true) (sym (same t))
          (elim (is_for (value old) t) as (λ b.
          is_some (cond b (Some old) (find (λ x. is_for (value x) t) rest)) ≡ true
          → is_some (cond b (Some new) (find (λ x. is_for (value x) t) rest))
          ≡ true) [ true ↦ λ _. refl | false ↦ λ k. k ] h)
