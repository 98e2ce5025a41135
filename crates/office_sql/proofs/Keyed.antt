-- Rows whose keys differ have one order, whatever order they lie in.
use Rattle.std.proofs.Common.{◌≡◌, ◌∷◌, Ordering}
use Rattle.text_core.proofs.Kit.{Bool, true, false, cond, List, [], filter, refl, sym, ap, ◌∙◌, Less, Equal, Greater, is_gt, is_eq, true≢false, IsPermutation}
use Rattle.text_core.proofs.Kit.{IsSorted, AllByRecursion, IsTotalOrder, ordering_reverse, match_ordering, IsPermutation-sym, IsPermutation-trans}
use Rattle.office_sql.proofs.Kit.{IsAscending, insert_sorted, sort_by, along_permutation, ascending_weaker, sorted_unique, IsPermutation-sort_by}
use Rattle.office_sql.proofs.Kit.{sorted_is-sort_by, sorted_from_ascending}
use Rattle.sqlite_keyed.proofs.ListLemmas.{all_weaker, IsPermutation-filter, ascending-filter}
use Rattle.office_tables.specs.Prelude.{with_row}
use Rattle.office_sql.specs.Prelude.{AreKeyed}

module _ {A : Type 0} (cmp : A → A → Ordering) (total : IsTotalOrder cmp) where
  abbrev pub Apart : A → A → Type 0
  Apart a b = is_eq (cmp a b) ≡ false

  abbrev Below : A → A → Type 0
  Below a b = cmp a b ≡ Less

  abbrev Keeps : List A → List A → Type 0
  Keeps xs ys = (AreKeyed cmp xs → AreKeyed cmp ys) × ((x : A) → AllByRecursion (Apart x) xs → AllByRecursion (Apart x) ys)

  turned : (o : Ordering) → is_eq (ordering_reverse o) ≡ is_eq o
  turned Less = refl
  turned Equal = refl
  turned Greater = refl

  pub apart_back : (a b : A) → Apart a b → Apart b a
  apart_back a b h = ap is_eq (total.antisymm b a) ∙ turned (cmp a b) ∙ h

  pub keyed_along : (xs ys : List A) → IsPermutation xs ys → AreKeyed cmp xs → AreKeyed cmp ys
  keyed_along xs ys same =
      (along_permutation Keeps (λ xs. (λ h. h, λ x h. h)) (λ x xs ys k. (λ h. (k.1 x h.0, k.0 h.1), λ z h. (h.0, k.1 z h.1)))
      (λ x y xs. (λ h. ((apart_back x y h.0.0, h.1.0), (h.0.1, h.1.1)), λ z h. (h.1.0, (h.0, h.1.1))))
      (λ xs ys zs k l. (λ h. l.0 (k.0 h), λ z h. l.1 z (k.1 z h))) xs ys same).0

  all_inserted : (P : A → Type 0) (new : A) (xs : List A) → P new → AllByRecursion P xs → AllByRecursion P (insert_sorted cmp new xs)
  all_inserted P new [] h all = (h, tt)
  all_inserted P new (x ∷ xs) h all =
      elim (is_gt (cmp new x)) as (λ b.
      AllByRecursion P (cond b (x ∷ insert_sorted cmp new xs) (new ∷ x
      ∷ xs))) [ true ↦ (all.0, all_inserted P new xs h all.1) | false ↦ (h, all) ]

  pub all_sorted : (P : A → Type 0) (xs : List A) → AllByRecursion P xs → AllByRecursion P (sort_by cmp xs)
  all_sorted P [] all = tt
  all_sorted P (x ∷ xs) all = all_inserted P x _ all.0 (all_sorted P xs all.1)

  inserted_rises : (new : A) (xs : List A) → AllByRecursion (Apart new) xs → IsAscending Below xs → IsAscending Below (insert_sorted cmp new xs)
  inserted_rises new [] apart up = (tt, tt)
  inserted_rises new (x ∷ xs) apart up = go (cmp new x) refl (inserted_rises new xs apart.1 up.1)
    where
      go : (o : Ordering) → cmp new x ≡ o → IsAscending Below (insert_sorted cmp new xs)
          → IsAscending Below (cond (is_gt o) (x ∷ insert_sorted cmp new xs) (new ∷ x ∷ xs))
      go Less e more = ((e, all_weaker _ (λ y. cmp new y ≡ Less) (λ y. total.trans new x y e) xs up.0), up)
      go Equal e more = absurd (true≢false (sym (ap is_eq e) ∙ apart.0))
      go Greater e more = (all_inserted _ new xs (total.antisymm x new ∙ ap ordering_reverse e) up.0, more)

  -- in their order they rise
  pub rises : (xs : List A) → AreKeyed cmp xs → IsAscending Below (sort_by cmp xs)
  rises [] apart = tt
  rises (x ∷ xs) apart = inserted_rises x _ (all_sorted _ xs apart.0) (rises xs apart.1)

  rising_sorted : (xs : List A) → IsAscending Below xs → IsSorted cmp xs
  rising_sorted xs up = sorted_from_ascending cmp total xs (ascending_weaker _ (λ a b. is_gt (cmp a b) ≡ false) (λ a b e. ap is_gt e) xs up)

  -- the order in which they lie is of no account
  pub sorted_along : (xs ys : List A) → IsPermutation xs ys → AreKeyed cmp xs → sort_by cmp ys ≡ sort_by cmp xs
  sorted_along xs ys same keyed =
      sorted_is-sort_by cmp total xs (sort_by cmp ys) keyed
      (IsPermutation-trans xs ys (sort_by cmp ys)
      same (IsPermutation-sym _ _ (IsPermutation-sort_by cmp total ys)))
      (rising_sorted _ (rises ys (keyed_along xs ys same keyed)))

  pub insert_places : (x : A) (l : List A) → AllByRecursion (Apart x) l → insert_sorted cmp x l ≡ with_row cmp x l
  insert_places x [] apart = refl
  insert_places x (y ∷ ys) apart = go (cmp x y) apart.0 (insert_places x ys apart.1)
    where
      go : (o : Ordering) → is_eq o ≡ false → insert_sorted cmp x ys ≡ with_row cmp x ys
          → cond (is_gt o) (y ∷ insert_sorted cmp x ys) (x ∷ y ∷ ys)
          ≡ match_ordering o (x ∷ y ∷ ys) (x ∷ ys) (y ∷ with_row cmp x ys)
      go Less apart more = refl
      go Equal apart more = absurd (true≢false apart)
      go Greater apart more = ap (λ l. y ∷ l) more

  -- a row with the key of one that is there takes its place
  insert_replaces : (x old : A) → cmp x old ≡ Equal → (l : List A) → AllByRecursion (Apart old) l
      → with_row cmp x (insert_sorted cmp old l) ≡ insert_sorted cmp x l
  insert_replaces x old tie [] apart = rw tie refl
  insert_replaces x old tie (y ∷ ys) apart = go (cmp old y) refl (total.congr x old y tie) apart.0 (insert_replaces x old tie ys apart.1)
    where
      go : (o : Ordering) → cmp old y ≡ o → cmp x y ≡ cmp old y → is_eq o ≡ false → with_row cmp x (insert_sorted cmp old ys) ≡ insert_sorted cmp x ys
          → with_row cmp x (cond (is_gt o) (y ∷ insert_sorted cmp old ys) (old ∷ y ∷ ys)) ≡ cond (is_gt (cmp x y)) (y ∷ insert_sorted cmp x ys) (x ∷ y ∷ ys)
      go Less e same apart more = rw (same ∙ e, tie) refl
      go Equal e same apart more = absurd (true≢false apart)
      go Greater e same apart more = rw (same ∙ e) (ap (λ l. y ∷ l) more)

  -- a new row takes its place
  pub gains : (x : A) (rows new : List A) → AreKeyed cmp (x ∷ rows) → IsPermutation (x ∷ rows) new
      → AreKeyed cmp new × (sort_by cmp new ≡ with_row cmp x (sort_by cmp rows))
  gains x rows new keyed same =
      (keyed_along (x ∷ rows) new same keyed, sorted_along (x ∷ rows) new same keyed ∙ insert_places x (sort_by cmp rows) (all_sorted _ rows keyed.0))

  -- what a query keeps and sorts is what is kept in order
  pub kept_sorted : (p : A → Bool) (xs ys : List A) → AreKeyed cmp xs → IsPermutation (filter p xs) ys → IsSorted cmp ys → filter p (sort_by cmp xs) ≡ ys
  kept_sorted p xs ys keyed same sorted =
      sym (sorted_unique cmp total (filter p (sort_by cmp xs)) ys (ascending-filter Below p (sort_by cmp xs) (rises xs keyed))
      (IsPermutation-trans _ _ _ (IsPermutation-filter p _ _ (IsPermutation-sort_by cmp total xs)) same) sorted)

  -- a row in place of the one that has its key
  pub replaces : (old x : A) (rest rows new : List A) → AreKeyed cmp rows → IsPermutation rows (old ∷ rest) → IsPermutation (x ∷ rest) new → cmp x old ≡ Equal
      → AreKeyed cmp new × (sort_by cmp new ≡ with_row cmp x (sort_by cmp rows))
  replaces old x rest rows new keyed was is tie =
      let split = keyed_along rows (old ∷ rest) was keyed in
      let apart : AllByRecursion (Apart x) rest = all_weaker (Apart old) (Apart x) (λ y e. ap is_eq (total.congr x old y tie) ∙ e) rest split.0 in
      let both = sorted_along (old ∷ rest) rows (IsPermutation-sym _ _ was) split in (
        keyed_along (x ∷ rest) new is (apart, split.1),
        sorted_along (x ∷ rest) new is (apart, split.1)
            ∙ sym (insert_replaces x old tie (sort_by cmp rest) (all_sorted _ rest split.0))
            ∙ ap (with_row cmp x) (sym both),
      )
