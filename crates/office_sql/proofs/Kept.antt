-- What a query over a table, or one with its validity rows, shows, as rows in the order of their keys, each with what its validity row says.
use Rattle.std.proofs.Common.{◌≡◌, ◌∷◌}
use Rattle.text_core.proofs.Kit.{ℕ, Bool, false, List, [], map, map-id, filter, find, refl, sym, ap, ap₂, ◌∙◌, subst, is_gt, IsPermutation, IsSorted, slice_get}
use Rattle.text_core.proofs.Kit.{Option, Some, None, unwrap_or, option_and_then, AllByRecursion, list_all, option_map, IsPermutation-map}
use Rattle.office_sql.proofs.Kit.{Row, column, IsAscending, Term, Env, eval_all, holds, output, output_cmp, ascending_from_sorted, sorted_from_ascending}
use Rattle.office_sql.proofs.Kit.{slice_get-filter, all-filter, all-permutation, all_both, filter_same, filter-map, ascending-map}
use Rattle.sqlite_trees.proofs.ListLemmas.{all_weaker, map-map}
use Rattle.office_sql.specs.Prelude.{env, passes, passing, pair, passes_join, first_that, beside, HasBeside, not_before_in_rows, HasOne, text_if, rows_in}
use Rattle.office_sql.specs.Prelude.{tree_of, IsValidityRow}
use Rattle.office_sql.proofs.Keyed.{kept_sorted}
use Rattle.office_sql.proofs.Lists.{sorted_kept}
use Rattle.office_sql.proofs.Joined.{joined}
use Rattle.office_sql.proofs.Scan.{Listed, Scanned}
use Rattle.office_sql.proofs.TableOf.{TableOf, HasValidity, AreRowsAs, ShowsJoined, answer_cmp, by_columns, by_columns_total, by_key, in_order, on_validity_key}
use Rattle.office_sql.proofs.TableOf.{shown_by_key}

-- what holds of each two holds of each two in turn
pub narrowed : {A : Type 0} (P : A → Type 0) (Q R : A → A → Type 0)
    → ((a b : A) → P a → P b → Q a b → R a b) → (xs : List A) → AllByRecursion P xs
    → IsAscending Q xs → IsAscending R xs
narrowed P Q R f [] all up = tt
narrowed P Q R f (x ∷ xs) all up = (all_both P (Q x) (R x) (λ y py q. f x y all.0 py q) xs all.1 up.0, narrowed P Q R f xs all.1 up.1)

-- the first of the rows that a query shows is what is found
pub found : {A : Type 0} (read : Row → A) (p : A → Bool) (l : List A) (rows : List Row)
    → map read rows ≡ filter p l → option_map read (slice_get rows 0) ≡ find p l
found read p l rows h = first rows ∙ ap (λ k. slice_get k 0) h ∙ slice_get-filter p l
  where
    first : (rows : List Row) → option_map read (slice_get rows 0) ≡ slice_get (map read rows) 0
    first [] = refl
    first (r ∷ rows) = refl

pub map_each : {X Y : Type 0} (f g : X → Y) (xs : List X) → AllByRecursion (λ x. f x ≡ g x) xs → map f xs ≡ map g xs
map_each f g [] all = refl
map_each f g (x ∷ xs) all = ap₂ ◌∷◌ all.0 (map_each f g xs all.1)

-- what the first row says
pub not_before_is : {A : Type 0} (is_for : A → Row → Bool) (rows : List Row) (x : A)
    → text_if (column (first_that (is_for x) rows) 3) ≡ not_before_in_rows is_for rows x
not_before_is is_for rows x = elim (find (is_for x) rows) as (λ o. text_if (column (unwrap_or o []) 3)
    ≡ option_and_then (λ r. text_if (column r 3)) o) [ Some r ↦ refl | None ↦ refl ]

-- what is read of the rows that a scan shows is what the test keeps of the table, in the order of its key
abbrev pub Shows : {A : Type 0} → TableOf A → List Term → List Term → Row → (Row → A) → (A → Bool) → Type 0
Shows t tests shown params read p =
    (all rows : List Row) → AreRowsAs t all → Scanned tests shown (by_key t.key) params all rows → map read rows ≡ filter p (in_order t all)

module _ {A : Type 0} (t : TableOf A) (p : A → Bool) (tests : List Term) (params : Row)
    (is : (r : Row) → t.Typed r → passes tests params r ≡ p (t.value r)) where
  -- what is kept, in the order of the key, is what the test keeps of the rows in order
  pub kept_is : (rows kept : List Row) → AreRowsAs t rows → IsPermutation (passing tests params rows) kept → IsSorted (by_columns t.key) kept
      → filter p (in_order t rows) ≡ map t.value kept
  kept_is rows kept are same sorted =
      let here : IsPermutation (filter (λ r. p (t.value r)) rows) kept = subst (λ l. IsPermutation l kept) (filter_same (passes tests params)
      (λ r. p (t.value r)) rows (all_weaker _ (λ r. passes tests params r ≡ p (t.value r)) is rows are.typed)) same in
      let typed = all-permutation t.Typed _ kept here (all-filter t.Typed (λ r. p (t.value r)) rows are.typed) in
      let rises = narrowed t.Typed _ (λ a b. is_gt (t.cmp (t.value a) (t.value b)) ≡ false) (λ a b f g up. sym (ap is_gt (t.compared a b f g)) ∙ up)
      kept typed (ascending_from_sorted (by_columns t.key) (by_columns_total t.key) kept sorted) in
      kept_sorted t.cmp t.total p (map t.value rows) (map t.value kept) are.keyed
      (subst (λ l. IsPermutation l (map t.value kept)) (sym (filter-map p t.value rows)) (IsPermutation-map t.value _ _ here))
      (sorted_from_ascending t.cmp t.total _ (ascending-map (λ a b. is_gt (t.cmp a b) ≡ false) t.value kept rises))

  -- a query that sorts by the key shows what a test keeps of the rows in order, whatever is made of each row
  pub shows_listed : (shown : List Term) (envs : Row → Env) (read : Row → A) (made : A → A) → ((a : A) → p (made a) ≡ p a)
      → ((r : Row) → t.Typed r → read (eval_all shown (envs r)) ≡ made (t.value r))
      → ((a b : Row) → answer_cmp t shown (envs a) (envs b) ≡ by_columns t.key a b)
      → (all rows : List Row) → AreRowsAs t all → Listed shown (by_key t.key) envs (passing tests params all) rows
      → map read rows ≡ filter p (map made (in_order t all))
  shows_listed shown envs read made blind reads compares all rows are s =
      let q = shown_by_key t shown in
      let sorted = subst (λ cmp. IsSorted cmp s.kept) (λ i a b. compares a b i) (sorted_kept (λ r. output q (envs r)) (output_cmp q) s.kept s.sorted) in
      let typed = all-permutation t.Typed _ s.kept s.same (all-filter t.Typed (passes tests params) all are.typed) in
      ap (map read) s.shows ∙ map-map read (λ r. eval_all shown (envs r)) s.kept
      ∙ map_each (λ r. read (eval_all shown (envs r))) (λ r. made (t.value r)) s.kept (all_weaker t.Typed _ reads s.kept typed)
      ∙ sym (map-map made t.value s.kept) ∙ ap (map made) (sym (kept_is all s.kept are s.same sorted))
      ∙ ap (λ q. map made (filter q (in_order t all))) (λ i a. sym (blind a) i) ∙ sym (filter-map p made (in_order t all))

  -- a query over one table shows the rows themselves
  pub shows_kept : (shown : List Term) (read : Row → A) → ((r : Row) → read (eval_all shown (env params r)) ≡ t.value r)
      → ((a b : Row) → answer_cmp t shown (env params a) (env params b) ≡ by_columns t.key a b)
      → Shows t tests shown params read p
  shows_kept shown read reads compares all rows are s =
      shows_listed shown (env params) read (λ a. a) (λ a. refl) (λ r _. reads r) compares all rows are s ∙ ap (filter p) (map-id (in_order t all))

  -- what a query over one table shows of each row is a part of what the row stands for
  pub shows_parts : {B : Type 0} (shown : List Term) (read : Row → B) (part : A → B) → ((r : Row) → read (eval_all shown (env params r)) ≡ part (t.value r))
      → ((a b : Row) → answer_cmp t shown (env params a) (env params b) ≡ by_columns t.key a b)
      → (all rows : List Row) → AreRowsAs t all → Scanned tests shown (by_key t.key) params all rows
      → map read rows ≡ map part (filter p (in_order t all))
  shows_parts shown read part reads compares all rows are s =
      let q = shown_by_key t shown in
      let sorted = subst (λ cmp. IsSorted cmp s.kept) (λ i a b. compares a b i) (sorted_kept (λ r. output q (env params r)) (output_cmp q) s.kept s.sorted) in
      ap (map read) s.shows ∙ map-map read (λ r. eval_all shown (env params r)) s.kept ∙ ap (λ f. map f s.kept) (λ i r. reads r i)
      ∙ sym (map-map part t.value s.kept) ∙ ap (map part) (sym (kept_is all s.kept are s.same sorted))

  -- a part of each value that has no beginning of validity is one of the value with whatever beginning
  pub parts_kept : {B : Type 0} (part : A → B) (made : A → A) → ((a : A) → p (made a) ≡ p a) → ((a : A) → part (made a) ≡ part a) → (xs : List A)
      → map part (filter p xs) ≡ map part (filter p (map made xs))
  parts_kept part made blind same xs =
      (λ i. map (λ a. sym (same a) i) (filter (λ a. sym (blind a) i) xs)) ∙ sym (map-map part made (filter (λ a. p (made a)) xs))
      ∙ ap (map part) (sym (filter-map p made xs))

  module _ (v : HasValidity t) where
    fit : (side : List Row) → AllByRecursion IsValidityRow side → (r : Row) → t.Typed r
        → filter (passes_join on_validity_key params r) side ≡ filter (v.is_for (t.value r)) side
    fit side typed r f = filter_same (passes_join on_validity_key params r) (v.is_for (t.value r)) side
        (all_weaker IsValidityRow (λ s. passes_join on_validity_key params r s ≡ v.is_for (t.value r) s) (λ s b. v.fits params r s f b) side typed)

    first : (side : List Row) → AllByRecursion IsValidityRow side → (r : Row) → t.Typed r
        → beside on_validity_key params side r ≡ first_that (v.is_for (t.value r)) side
    first side typed r f =
        ap (λ o. unwrap_or o []) (sym (slice_get-filter (passes_join on_validity_key params r) side)
        ∙ ap (λ l. slice_get l 0) (fit side typed r f)
        ∙ slice_get-filter (v.is_for (t.value r)) side)

    -- a query over the table and its validity rows shows the rows that pass, each with what its validity row says
    pub shows_joined : (shown : List Term) (read : Row → A) → ((u : Option (List ℕ)) (a : A) → p (v.with_text u a) ≡ p a)
        → ((r s : Row) → list_all (holds (pair params r s)) tests ≡ passes tests params r)
        → ((r s : Row) → read (eval_all shown (pair params r s)) ≡ v.with_text (text_if (column s 3)) (t.value r))
        → ((a b s u : Row) → answer_cmp t shown (pair params a s) (pair params b u) ≡ by_columns t.key a b)
        → ShowsJoined t v tests shown params read p
    shows_joined shown read same blind reads compares db rows are validity a =
        let side = rows_in db v.side in
        shows_listed shown (λ r. pair params r (beside on_validity_key params side r)) read
        (λ a. v.with_text (text_if (column (first_that (v.is_for a) side) 3)) a) (λ a. same _ a)
        (λ r f. reads r (beside on_validity_key params side r)
        ∙ ap (λ s. v.with_text (text_if (column s 3)) (t.value r)) (first side validity.typed r f))
        (λ a b. compares a b _ _) (rows_in db t.name) rows are
        (joined db params (tree_of t.name) (tree_of v.side) on_validity_key tests shown (by_key t.key) rows blind
        (all_both t.Typed (λ r. HasOne v.is_for side (t.value r)) (HasBeside on_validity_key params side)
        (λ r f h. (h.0, fit side validity.typed r f ∙ h.1)) (rows_in db t.name) are.typed validity.one) a)
        ∙ ap (λ (made : A → A). filter p (map made (in_order t (rows_in db t.name)))) (λ i a. v.with_text (not_before_is v.is_for side a i) a)
