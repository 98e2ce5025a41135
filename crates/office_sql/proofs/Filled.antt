-- What rows that are made of a table's rows, one of each, are to it.
use Rattle.std.proofs.Common.{◌≡◌, ◌∷◌, ◌++◌}
use Rattle.text_core.proofs.Kit.{ℤ, suc, Bool, true, false, cond, List, [], map, filter, find, length, Some, refl, sym, ap, subst, ◌∙◌, is_eq, IsPermutation}
use Rattle.text_core.proofs.Kit.{IsTrue, arith, is_some, AllByRecursion, tied_itself, length_permutation, IsPermutation-refl, IsPermutation-sym}
use Rattle.text_core.proofs.Kit.{IsPermutation-trans, IsPermutation-append, IsPermutation-middle}
use Rattle.office_sql.proofs.Kit.{Null, Int, Row, is_int, IsTable, rowid, put_row, numbered, Chosen, next_rowid, put_all, all_unmap, all_both, all-permutation}
use Rattle.office_sql.proofs.Kit.{IsTable-put_row, all-put_row}
use Rattle.sqlite_trees.proofs.ListLemmas.{all_weaker, IsPermutation-filter}
use Rattle.office_sql.specs.Prelude.{AreKeyed, HaveOneValidityRow, HasOne, IsText}
use Rattle.office_sql.proofs.Keyed.{apart_back}
use Rattle.office_sql.proofs.TableOf.{TableOf, HasValidity, AreRowsAs}
use Rattle.office_sql.proofs.TableRows.{put_next}

-- each has a rowid and the columns that are made of a row, in turn
abbrev pub AreMade : (Row → Row) → List Row → List Row → Type 0
AreMade columns [] [] = Unit {0}
AreMade columns [] (s ∷ news) = ⊥
AreMade columns (r ∷ rows) [] = ⊥
AreMade columns (r ∷ rows) (s ∷ news) = ((id : ℤ) × (s ≡ Int id ∷ columns r)) × AreMade columns rows news

-- the rows that a statement puts into a table that has some
abbrev pub news_of : (Row → Row) → List Row → List Row → List Row
news_of columns rows kept = numbered Chosen rows (map (λ r. Null ∷ columns r) kept)

pub numbered_made : (columns : Row → Row) (rows kept : List Row) → AreMade columns kept (news_of columns rows kept)
numbered_made columns rows [] = tt
numbered_made columns rows (r ∷ kept) = ((next_rowid rows, refl), numbered_made columns (put_row (Int (next_rowid rows) ∷ columns r) rows) kept)

pub record Grows (rows news : List Row) : Type 0 where
  pub rising : IsTable (put_all rows news)
  pub numbered : AllByRecursion (λ r. IsTrue (is_int (rowid r))) (put_all rows news)
  pub same : IsPermutation (put_all rows news) (news ++ rows)

pub grows : (columns : Row → Row) (kept rows : List Row) → IsTable rows
    → AllByRecursion (λ r. IsTrue (is_int (rowid r))) rows → Grows rows (news_of columns rows kept)
grows columns [] rows up whole = record { rising = up; numbered = whole; same = IsPermutation-refl _ }
grows columns (r ∷ kept) rows up whole =
    let new : Row = Int (next_rowid rows) ∷ columns r in
    let it = grows columns kept (put_row new rows) (IsTable-put_row new rows up) (all-put_row _ new rows refl whole) in
    let more = news_of columns (put_row new rows) kept in
    record {
      rising = it.rising;
      numbered = it.numbered;
      same = IsPermutation-trans _ _ _ it.same
          (IsPermutation-trans _ _ _
          (IsPermutation-append more more _ _ (IsPermutation-refl more)
          (put_next (columns r) rows up whole)) (IsPermutation-middle more new rows));
    }

only : (l : List Row) → length l ≡ 1 → (s : Row) × (l ≡ s ∷ [])
only [] e = absurd (omega (arith, e))
only (s ∷ []) e = (s, refl)
only (s ∷ t ∷ l) e = absurd (omega (arith, e))

none_kept : (p : Row → Bool) (rows : List Row) → AllByRecursion (λ r. p r ≡ false) rows → filter p rows ≡ []
none_kept p [] all = refl
none_kept p (r ∷ rows) all = rw all.0 (none_kept p rows all.1)

finds_itself : (rows : List Row) → AllByRecursion (λ r. (p : Row → Bool) → p r ≡ true → is_some (find p rows) ≡ true) rows
finds_itself [] = tt
finds_itself (r ∷ rows) =
    (λ p e. rw e refl, all_weaker (λ x. (p : Row → Bool) → p x ≡ true → is_some (find p rows) ≡ true) _ (λ x h p e. later p (h p e)) rows (finds_itself rows))
  where
    later : (p : Row → Bool) → is_some (find p rows) ≡ true → is_some (cond (p r) (Some r) (find p rows)) ≡ true
    later p h = elim (p r) as (λ b. is_some (cond b (Some r) (find p rows)) ≡ true) [ true ↦ refl | false ↦ h ]

made_all : (columns : Row → Row) (P : Row → Type 0) (kept news : List Row)
    → AreMade columns kept news → AllByRecursion (λ r. (id : ℤ) → P (Int id ∷ columns r)) kept
    → AllByRecursion P news
made_all columns P [] [] made all = tt
made_all columns P [] (s ∷ news) made all = absurd made
made_all columns P (r ∷ kept) [] made all = absurd made
made_all columns P (r ∷ kept) (s ∷ news) made all = (subst P (sym made.0.1) (all.0 made.0.0), made_all columns P kept news made.1 all.1)

module _ {A : Type 0} (t : TableOf A) (v : HasValidity t) (columns : Row → Row)
    (tied : (a : A) (id : ℤ) (r : Row) → t.Typed r → v.is_for a (Int id ∷ columns r) ≡ is_eq (t.cmp a (t.value r)))
    (texts : (id : ℤ) (r : Row) → t.Typed r → IsText 1 (Int id ∷ columns r) × IsText 2 (Int id ∷ columns r)) where
  counted : (a : A) (kept news : List Row) → AreMade columns kept news → AllByRecursion t.Typed kept
      → length (filter (v.is_for a) news) ≡ length (filter (λ r. is_eq (t.cmp a (t.value r))) kept)
  counted a [] [] made all = refl
  counted a [] (s ∷ news) made all = absurd made
  counted a (r ∷ kept) [] made all = absurd made
  counted a (r ∷ kept) (s ∷ news) made all =
      let more = counted a kept news made.1 all.1 in
      let same : v.is_for a s ≡ is_eq (t.cmp a (t.value r)) = ap (v.is_for a) made.0.1 ∙ tied a made.0.0 r all.0 in
      ap (λ b. length (cond b (s ∷ filter (v.is_for a) news) (filter (v.is_for a) news))) same
      ∙ elim (is_eq (t.cmp a (t.value r))) as (λ b.
      length (cond b (s ∷ filter (v.is_for a) news) (filter (v.is_for a) news))
      ≡ length (cond b (r
      ∷ filter (λ x. is_eq (t.cmp a (t.value x))) kept) (filter (λ x.
      is_eq (t.cmp a (t.value x))) kept)))
      [ true ↦ ap suc more | false ↦ more ]

  -- each row has its key alone, where the rows' keys differ
  alone : (rows : List Row) → AreKeyed t.cmp (map t.value rows)
      → AllByRecursion (λ r. length (filter (λ x. is_eq (t.cmp (t.value r) (t.value x))) rows) ≡ 1) rows
  alone [] keyed = tt
  alone (r ∷ rows) keyed =
      let apart : AllByRecursion (λ x. is_eq (t.cmp (t.value r) (t.value x)) ≡ false) rows =
      all_unmap (λ b. is_eq (t.cmp (t.value r) b) ≡ false) t.value rows keyed.0 in
      let rest : filter (λ x. is_eq (t.cmp (t.value r) (t.value x))) rows ≡ [] = none_kept _ rows apart in (
        ap (λ o. length (cond (is_eq o) (r
            ∷ filter (λ x. is_eq (t.cmp (t.value r) (t.value x))) rows) (filter (λ x.
            is_eq (t.cmp (t.value r) (t.value x))) rows))) (tied_itself t.total (t.value r))
            ∙ ap (λ l. suc (length l)) rest,
        all_both (λ x. is_eq (t.cmp (t.value r) (t.value x)) ≡ false) (λ x. length (filter (λ y. is_eq (t.cmp (t.value x) (t.value y))) rows) ≡ 1) _
            (λ x e h.
            ap (λ b. length (cond b (r
            ∷ filter (λ y. is_eq (t.cmp (t.value x) (t.value y))) rows) (filter (λ y.
            is_eq (t.cmp (t.value x) (t.value y))) rows)))
            (apart_back t.cmp t.total (t.value r) (t.value x) e) ∙ h) rows apart (alone rows keyed.1),
      )

  -- rows that are made of all rows of a table, one of each, are their validity rows
  pub validity_made : (rows kept news validities : List Row) → AreRowsAs t rows → IsPermutation rows kept → AreMade columns kept news
      → IsTable validities → AllByRecursion (λ r. IsTrue (is_int (rowid r))) validities → IsPermutation validities news
      → HaveOneValidityRow v.is_for t.value rows validities
  validity_made rows kept news validities are along made up whole same =
      let typed = all-permutation t.Typed rows kept along are.typed in
      let back = IsPermutation-sym validities news same in
      record {
        rising = up;
        numbered = whole;
        typed = all-permutation (λ s. IsText 1 s × IsText 2 s) news validities back
            (made_all columns (λ s. IsText 1 s × IsText 2 s) kept news made (all_weaker t.Typed _ (λ r f id. texts id r f) kept typed));
        one = all_weaker _ (λ r. HasOne v.is_for validities (t.value r))
            (λ r e. only (filter (v.is_for (t.value r)) validities)
            (sym (length_permutation _ _
            (IsPermutation-filter (v.is_for (t.value r)) validities news same))
            ∙ counted (t.value r) kept news made typed
            ∙ length_permutation _ _ (IsPermutation-filter (λ x. is_eq (t.cmp (t.value r) (t.value x))) rows kept along) ∙ e)) rows (alone rows are.keyed);
        for_one = all-permutation (λ s. is_some (find (λ r. v.is_for (t.value r) s) rows) ≡ true) news validities back
            (made_all columns (λ s. is_some (find (λ r. v.is_for (t.value r) s) rows) ≡ true) kept news made
            (all-permutation (λ r. (id : ℤ) → is_some (find (λ x. v.is_for (t.value x) (Int id ∷ columns r)) rows) ≡ true) rows kept along
            (all_both t.Typed (λ r. (p : Row → Bool) → p r ≡ true → is_some (find p rows) ≡ true) _
            (λ r f h id.
            h (λ x. v.is_for (t.value x) (Int id ∷ columns r)) (tied (t.value r) id r f
            ∙ ap is_eq (tied_itself t.total (t.value r)))) rows are.typed (finds_itself rows))));
      }

-- what holds of each that is made
pub each_made : (columns : Row → Row) (P : Row → Type 0) (kept news validities : List Row)
    → AreMade columns kept news → IsPermutation validities news
    → ((id : ℤ) (r : Row) → P (Int id ∷ columns r)) → AllByRecursion P validities
each_made columns P kept news validities made same is =
    all-permutation P news validities (IsPermutation-sym validities news same) (made_all columns P kept news made (each kept))
  where
    each : (rows : List Row) → AllByRecursion (λ r. (id : ℤ) → P (Int id ∷ columns r)) rows
    each [] = tt
    each (r ∷ rows) = (λ id. is id r, each rows)
