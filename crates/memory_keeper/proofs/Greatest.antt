-- The greatest of the numbers of rows, which is that of the last of them, and the number after it.
use Rattle.std.proofs.Common.{◌≡◌, ◌≤◌, ◌+◌, ◌-◌, ◌∷◌}
use Rattle.text_core.proofs.Kit.{ℕ, zero, suc, length, map, Some, arith, true, false, List, [], None, refl, sym, ap, slice_get, IfSome, nat_lt, cond}
use Rattle.text_core.proofs.Kit.{slice_get-get_or, AllByRecursion}
use Rattle.office_tables.specs.Prelude.{largest_number, one_more, greatest}

module _ {A : Type 0} (number : A → ℕ) where
  -- where there is no last row there is none
  pub no_rows : (rows : List A) → None ≡ slice_get rows (length rows - 1) → 0 ≡ greatest (map number rows)
  no_rows [] none = refl
  no_rows (x ∷ xs) none = let there = slice_get-get_or (x ∷ xs) (length (x ∷ xs) - 1) x (omega arith) in cc

  -- no number is above the greatest
  above_none : (m : ℕ) (rows : List A) → AllByRecursion (λ x. number x ≤ m) rows → greatest (map number rows) ≤ m
  above_none m [] all = omega arith
  above_none m (x ∷ xs) all = let later = above_none m xs all.1 in let here : number x ≤ m = all.0 in omega (arith, later, here)

  -- each number is among those that the greatest is of
  below_greatest : (rows : List A) (i : ℕ) (x : A) → slice_get rows i ≡ Some x → number x ≤ greatest (map number rows)
  below_greatest [] i x is = cc
  below_greatest (y ∷ ys) zero x is = let same : y ≡ x = cc in let n = ap number same in omega (arith, n)
  below_greatest (y ∷ ys) (suc i) x is = let later = below_greatest ys i x is in omega (arith, later)

  -- the last row has the greatest number, where no other's is above it
  pub last_is_greatest : (x : A) (rows : List A) → Some x ≡ slice_get rows (length rows - 1) → AllByRecursion (λ y. number y ≤ number x) rows
      → number x ≡ greatest (map number rows)
  last_is_greatest x rows is all =
      let low = below_greatest rows (length rows - 1) x (sym is) in
      let high = above_none (number x) rows all in
      omega (arith, low, high)

-- what holds of the number after this one holds of it where there is room for it
pub IfSome-one_more : (P : ℕ → Type 0) (n : ℕ) → P (n + 1) → IfSome (one_more n) P
IfSome-one_more P n holds =
    elim (nat_lt n largest_number) as (λ b. IfSome (cond b (Some (n + 1)) None) P) [
      | true ↦ holds
      | false ↦ tt
    ]

-- the number after this one is one above it
pub one_more_is : (n m : ℕ) → Some m ≡ one_more n → m ≡ n + 1
one_more_is n m is =
    elim (nat_lt n largest_number) as (λ b. Some m ≡ cond b (Some (n + 1)) None → m ≡ n + 1) [
      | true ↦ λ same. cc
      | false ↦ λ none. cc
    ] is
