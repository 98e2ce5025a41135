-- The sum over rows of which one is put in its place.
use Rattle.std.proofs.Common.{◌≡◌, ◌+◌, ◌∷◌, Ordering}
use Rattle.text_core.proofs.Kit.{ℕ, arith, cond, List, [], Option, Some, None, Less, Equal, Greater, refl, AllByRecursion, find, IsTotalOrder, is_eq}
use Rattle.text_core.proofs.Kit.{match_ordering}
use Rattle.std.specs.List.{sum_by}
use Rattle.std.proofs.lemmas.List.Sums.{sum_by-cons}
use Rattle.office_tables.specs.Prelude.{with_row, IsAscending}
use Rattle.office_tables.proofs.Placing.{all_map}

module _ {A : Type 0} (f : A → ℕ) where
  -- what a row counts that may be there
  abbrev pub count_if : Option A → ℕ
  count_if None = 0
  count_if (Some x) = f x

  -- nothing has a key that is less than all
  none_counts : (cmp : A → A → Ordering) (x : A) (ys : List A) → AllByRecursion (λ y. cmp x y ≡ Less) ys → count_if (find (λ y. is_eq (cmp x y)) ys) ≡ 0
  none_counts cmp x [] all = refl
  none_counts cmp x (y ∷ ys) all = rw all.0 (none_counts cmp x ys all.1)

  -- a row is put, and the one with its key is gone
  pub sum_put : (cmp : A → A → Ordering) → IsTotalOrder cmp → (x : A) (rows : List A) → IsAscending cmp rows
      → sum_by f (with_row cmp x rows) + count_if (find (λ y. is_eq (cmp x y)) rows) ≡ sum_by f rows + f x
  sum_put cmp total x [] o = let one = sum_by-cons f x [] in omega (arith, one)
  sum_put cmp total x (y ∷ ys) o =
      let was = sum_by-cons f y ys in
      elim (cmp x y) as (λ r. cmp x y ≡ r → sum_by f (match_ordering r (x ∷ y ∷ ys) (x ∷ ys) (y ∷ with_row cmp x ys)) + count_if
      (cond (is_eq r) (Some y) (find (λ z. is_eq (cmp x z)) ys)) ≡ sum_by f (y ∷ ys) + f x) [
        | Less ↦ λ e.
            let none = none_counts cmp x ys (all_map (λ z. cmp y z ≡ Less) (λ z. cmp x z ≡ Less) (λ z l. total.trans x y z e l) ys o.0) in
            let now = sum_by-cons f x (y ∷ ys) in
            omega (arith, now, none)
        | Equal ↦ λ e. let now = sum_by-cons f x ys in omega (arith, now, was)
        | Greater ↦ λ e.
            let now = sum_by-cons f y (with_row cmp x ys) in let later = sum_put cmp total x ys o.1 in omega (arith, now, was, later)
      ] refl
