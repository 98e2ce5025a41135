-- A table whose rows each have one validity row in another: both after a row more with its validity row, and after a row in place of one with its key.
use Rattle.std.proofs.Common.{◌≡◌, ◌∷◌, Ordering}
use Rattle.text_core.proofs.Kit.{ℤ, Bool, true, false, cond, List, [], map, find, Some, refl, sym, ap, ap₂, ◌∙◌, Less, Equal, Greater, is_eq, IsPermutation}
use Rattle.text_core.proofs.Kit.{true≢false, is_some, option_and_then, AllByRecursion, option_map, match_ordering, IsPermutation-sym}
use Rattle.office_sql.proofs.Kit.{Int, Row, column, IsTable, put_row, without_rowid, next_rowid, all_unmap, all-map, IsTable-put_row, all-put_row}
use Rattle.sqlite_trees.proofs.ListLemmas.{all_weaker}
use Rattle.office_tables.specs.Prelude.{with_row}
use Rattle.office_tables.proofs.Finding.{find_none}
use Rattle.office_sql.specs.Prelude.{HaveOneValidityRow, IsValidityRow, text_if}
use Rattle.office_sql.proofs.Kept.{map_each}
use Rattle.office_sql.proofs.Keyed.{Apart, all_sorted}
use Rattle.office_sql.proofs.ValidityRows.{validity_added, validity_kept}
use Rattle.office_sql.proofs.TableOf.{TableOf, HasValidity, AreRowsAs, in_order, with_not_before}
use Rattle.office_sql.proofs.TableRows.{put_next, put_in_place, row_added}

-- what is made of each row, where the order doesn't look at it
map_placed : {A : Type 0} (cmp : A → A → Ordering) (f : A → A)
    → ((a b : A) → cmp (f a) (f b) ≡ cmp a b) → (x : A) (l : List A)
    → map f (with_row cmp x l) ≡ with_row cmp (f x) (map f l)
map_placed cmp f same x [] = refl
map_placed cmp f same x (y ∷ ys) =
    elim (cmp x y) as (λ o. map f (match_ordering o (x ∷ y ∷ ys) (x ∷ ys) (y ∷ with_row cmp x ys))
    ≡ match_ordering o (f x ∷ f y ∷ map f ys) (f x ∷ map f ys) (f y
    ∷ with_row cmp (f x) (map f ys)))
    [ Less ↦ refl | Equal ↦ refl | Greater ↦ ap (λ l. f y ∷ l) (map_placed cmp f same x ys) ]
    ∙ ap (λ o. match_ordering o (f x ∷ f y ∷ map f ys) (f x ∷ map f ys) (f y ∷ with_row cmp (f x) (map f ys))) (sym (same x y))

-- what is found is found of what is made of each element, where the test doesn't look at it
pub find_made : {A : Type 0} (p : A → Bool) (f : A → A) → ((a : A) → p (f a) ≡ p a) → (l : List A) → find p (map f l) ≡ option_map f (find p l)
find_made p f same [] = refl
find_made p f same (y ∷ ys) =
    ap (λ b. cond b (Some (f y)) (find p (map f ys))) (same y)
    ∙ elim (p y) as (λ b. cond b (Some (f y)) (find p (map f ys)) ≡ option_map f (cond b (Some y) (find p ys))) [ true ↦ refl | false ↦ find_made p f same ys ]

module _ {A : Type 0} (t : TableOf A) (v : HasValidity t) where
  -- a validity row is not for two keys
  not_both : (a b : A) (s : Row) → is_eq (t.cmp a b) ≡ false → v.is_for a s ≡ true → v.is_for b s ≡ false
  not_both a b s apart its =
      elim (v.is_for b s) as (λ c. v.is_for b s ≡ c → c ≡ false) [
        | true ↦ λ too. absurd (true≢false (ap is_eq (sym (v.ties a b s its too)) ∙ apart))
        | false ↦ λ e. refl
      ] refl

  -- a key that no row has is no validity row's
  no_validity_row : (a : A) (rows validities : List Row) → AllByRecursion (λ r. is_eq (t.cmp a (t.value r)) ≡ false) rows
      → AllByRecursion (λ s. is_some (find (λ r. v.is_for (t.value r) s) rows) ≡ true) validities → AllByRecursion (λ s. v.is_for a s ≡ false) validities
  no_validity_row a rows validities apart = all_weaker _ (λ s. v.is_for a s ≡ false) one validities
    where
      one : (s : Row) → is_some (find (λ r. v.is_for (t.value r) s) rows) ≡ true → v.is_for a s ≡ false
      one s some =
          elim (v.is_for a s) as (λ c. v.is_for a s ≡ c → c ≡ false) [
            | true ↦ λ its. absurd (true≢false (sym some ∙ ap is_some (find_none (λ r. v.is_for (t.value r) s) rows
                (all_weaker _ (λ r. v.is_for (t.value r) s ≡ false) (λ r e. not_both a (t.value r) s e its) rows apart))))
            | false ↦ λ e. refl
          ] refl

  pub record MoreWithValidity (r s : Row) (rows validities : List Row) : Type 0 where
    pub are : AreRowsAs t (put_row r rows)
    pub validity : HaveOneValidityRow v.is_for t.value (put_row r rows) (put_row s validities)
    pub placed_is : map (with_not_before v (put_row s validities)) (in_order t (put_row r rows))
        ≡ with_row t.cmp (v.with_text (text_if (column s 3)) (t.value r)) (map (with_not_before v validities) (in_order t rows))

  -- a row more, with its validity row
  pub more_with_validity : (columns own : Row) (rows validities : List Row) → AreRowsAs t rows → HaveOneValidityRow v.is_for t.value rows validities
      → t.Typed (Int (next_rowid rows) ∷ columns) → IsValidityRow (Int (next_rowid validities) ∷ own)
      → v.is_for (t.value (Int (next_rowid rows) ∷ columns)) (Int (next_rowid validities) ∷ own) ≡ true
      → AllByRecursion (Apart t.cmp t.total (t.value (Int (next_rowid rows) ∷ columns))) (map t.value rows)
      → MoreWithValidity (Int (next_rowid rows) ∷ columns) (Int (next_rowid validities) ∷ own) rows validities
  more_with_validity columns own rows validities are was typed texts its apart =
      let r : Row = Int (next_rowid rows) ∷ columns in
      let s : Row = Int (next_rowid validities) ∷ own in
      let made = row_added t columns rows are typed apart in
      let others = all_unmap (λ b. is_eq (t.cmp (t.value r) b) ≡ false) t.value rows apart in
      let more = validity_added t.value v.is_for r s rows validities (put_row r rows) (put_row s validities) was
      (IsPermutation-sym _ _ (put_next columns rows are.rising are.numbered)) (IsPermutation-sym _ _ (put_next own validities was.rising was.numbered))
      (IsTable-put_row s validities was.rising) (all-put_row _ s validities refl was.numbered) texts its
      (no_validity_row (t.value r) rows validities others was.for_one)
      (all_weaker _ (λ x. v.is_for (t.value x) s ≡ false) (λ x e. not_both (t.value r) (t.value x) s e its) rows others) in
      let sorted = in_order t rows in
      let told = with_not_before v (put_row s validities) in
      let same : AllByRecursion (λ a. told a ≡ with_not_before v validities a) sorted =
      all_sorted t.cmp t.total _ (map t.value rows) (all-map (λ a. told a ≡ with_not_before v validities a) t.value rows
      (all_weaker _ (λ x. told (t.value x) ≡ with_not_before v validities (t.value x))
      (λ x e. ap (λ o. v.with_text (option_and_then (λ u. text_if (column u 3)) o) (t.value x)) e) rows more.others)) in
      record {
        are = made.0;
        validity = more.validity;
        placed_is = ap (map told) made.1 ∙ map_placed t.cmp told (λ a b. v.unread _ _ a b) (t.value r) sorted
            ∙ ap₂ (with_row t.cmp) (ap (λ o. v.with_text (option_and_then (λ u. text_if (column u 3)) o) (t.value r)) more.its)
            (map_each told (with_not_before v validities) sorted same);
      }

  -- a row in place of one with the same validity rows
  pub validity_as_was : (id : ℤ) (old columns : Row) (rows validities : List Row)
      → HaveOneValidityRow v.is_for t.value rows validities → IsTable rows
      → IsPermutation rows (old ∷ without_rowid id rows)
      → ((s : Row) → v.is_for (t.value (Int id ∷ columns)) s ≡ v.is_for (t.value old) s)
      → HaveOneValidityRow v.is_for t.value (put_row (Int id ∷ columns) (without_rowid id rows)) validities
  validity_as_was id old columns rows validities was up split =
      validity_kept t.value v.is_for old (Int id ∷ columns) (without_rowid id rows) rows (put_row (Int id ∷ columns) (without_rowid id rows)) validities was
      split (IsPermutation-sym _ _ (put_in_place id columns rows up))

  -- in the order of the key
  pub replaced_with_validity : (validities : List Row) (new : A) (old_rows new_rows : List Row)
      → in_order t new_rows ≡ with_row t.cmp new (in_order t old_rows)
      → map (with_not_before v validities) (in_order t new_rows)
      ≡ with_row t.cmp (with_not_before v validities new) (map (with_not_before v validities) (in_order t old_rows))
  replaced_with_validity validities new old_rows new_rows is = ap (map (with_not_before v validities)) is
      ∙ map_placed t.cmp (with_not_before v validities) (λ a b. v.unread _ _ a b) new (in_order t old_rows)
