-- What a query over a table and one beside it answers, where each row of the first has one row in the second.
use Rattle.std.proofs.Common.{◌≡◌, ◌∷◌, ◌++◌, ◌&&◌, if◌then◌else◌}
use Rattle.text_core.proofs.Kit.{List, [], map, Bool, true, false, cond, refl, sym, ap, ap₂, ◌∙◌, ℕ, slice_get, unwrap_or, AllByRecursion, filter, flat_map}
use Rattle.text_core.proofs.Kit.{list_all, list_all-append}
use Rattle.office_sql.proofs.Kit.{slice_get-filter, Key, Row, Trees, Term, Env, holds, inner, end, IsAnswer}
use Rattle.sqlite_trees.proofs.ListLemmas.{all_weaker}
use Rattle.office_sql.specs.Prelude.{passes, passing, over, pair, passes_join, first_that, beside, HasBeside}
use Rattle.office_sql.proofs.Scan.{Listed, listed, cut}

pub same_each : (f g : Row → List Env) (rows : List Row) → AllByRecursion (λ r. f r ≡ g r) rows → flat_map f rows ≡ flat_map g rows
same_each f g [] all = refl
same_each f g (r ∷ rows) all = ap₂ ◌++◌ all.0 (same_each f g rows all.1)

-- a test that doesn't look at them keeps all or none
also : (p : Row → Bool) (b : Bool) (rows : List Row) → filter (λ s. p s && b) rows ≡ cond b (filter p rows) []
also p true rows = ap (λ q. filter q rows) (λ i s. and_true (p s) i)
  where
    and_true : (b : Bool) → (b && true) ≡ b
    and_true true = refl
    and_true false = refl
also p false rows = none rows
  where
    and_false : (b : Bool) → (b && false) ≡ false
    and_false true = refl
    and_false false = refl

    none : (rows : List Row) → filter (λ s. p s && false) rows ≡ []
    none [] = refl
    none (s ∷ rows) = rw (and_false (p s)) (none rows)

-- the only row that passes is the first
pub only_first : (p : Row → Bool) (rows : List Row) (s : Row) → filter p rows ≡ s ∷ [] → first_that p rows ≡ s
only_first p rows s e = ap (λ o. unwrap_or o []) (sym (slice_get-filter p rows) ∙ ap (λ l. slice_get l 0) e)

module _ (on tests : List Term) (params : Row) (blind : (r s : Row) → list_all (holds (pair params r s)) tests ≡ passes tests params r) (side : List Row) where
  abbrev matched : Row → List Env
  matched r = flat_map (λ s. if list_all (holds (pair params r s)) (on ++ tests) then pair params r s ∷ [] else []) side

  one_match : (r : Row) → HasBeside on params side r → matched r ≡ cond (passes tests params r) (pair params r (beside on params side r) ∷ []) []
  one_match r has =
      let whole : filter (passes_join on params r) side ≡ beside on params side r ∷ [] =
      has.1 ∙ ap (λ s. s ∷ []) (sym (only_first (passes_join on params r) side has.0 has.1)) in
      cut (pair params r) (λ s. list_all (holds (pair params r s)) (on ++ tests)) side
      ∙ ap (λ p. map (pair params r) (filter p side)) (λ i s.
      (list_all-append (holds (pair params r s)) on tests
      ∙ ap (λ b. passes_join on params r s && b) (blind r s)) i)
      ∙ ap (map (pair params r)) (also (passes_join on params r) (passes tests params r) side ∙ ap (λ l. cond (passes tests params r) l []) whole)
      ∙ mapped (passes tests params r)
    where
      mapped : (b : Bool) → map (pair params r) (cond b (beside on params side r ∷ []) []) ≡ cond b (pair params r (beside on params side r) ∷ []) []
      mapped true = refl
      mapped false = refl

  pub pairs : (rows : List Row) → AllByRecursion (HasBeside on params side) rows
      → flat_map matched rows
      ≡ map (λ r. pair params r (beside on params side r)) (passing tests params rows)
  pairs rows has =
      same_each matched (λ r.
      cond (passes tests params r) (pair params r (beside on params side r)
      ∷ []) []) rows (all_weaker (HasBeside on params side) _ one_match rows has)
      ∙ cut (λ r. pair params r (beside on params side r)) (passes tests params) rows

-- each row of the first table that passes, with the one row beside it
pub joined : (db : Trees) (params : Row) (tree side : ℕ) (on tests shown : List Term) (keys : List (Term × Key)) (rows : List Row)
    → ((r s : Row) → list_all (holds (pair params r s)) tests ≡ passes tests params r) → AllByRecursion (HasBeside on params (db side)) (db tree)
    → IsAnswer (over (inner tree (inner side end)) (on ++ tests) shown keys) db params rows
    → Listed shown keys (λ r. pair params r (beside on params (db side) r)) (passing tests params (db tree)) rows
joined db params tree side on tests shown keys rows blind has a =
    listed [] (inner tree (inner side end)) (on ++ tests) shown keys db params _ _ rows (pairs on tests params blind (db side) (db tree) has) a
