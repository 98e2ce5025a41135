-- Pairs of a list's elements that go with one another.
use mathlib.Core.Path.{fun_ext}
use Rattle.std.proofs.Common.{◌≡◌, ◌≤◌, ◌||◌, ◌∷◌}
use Rattle.text_core.proofs.Kit.{ℕ, suc, Bool, true, false, cond, ltb, List, [], length, refl, ap, arith, or_from, or_parts, nat_tests, distinct_count-le}
use Rattle.text_core.proofs.Kit.{list_any, AllByRecursion, distinct_count, unique_keys}
use Rattle.std.specs.List.{IsDistinct}
use Rattle.site_core.specs.Prelude.{has_pair}

-- one more element, which is there already or not
counted : {A : Type 0} (there : Bool) (x : A) (unique : List A) (n : ℕ) (pair : Bool) → length unique ≤ n → ltb (length unique) n ≡ pair
    → ltb (length (cond there unique (x ∷ unique))) (suc n) ≡ (there || pair)
counted true x unique n pair few rest = grind (arith, nat_tests)
counted false x unique n pair few rest = grind (arith, nat_tests)

-- an element comes twice where fewer are distinct than there are
pub has_pair-from_count : {A : Type 0} (same : A → A → Bool) (xs : List A) → ltb (distinct_count same xs) (length xs) ≡ has_pair same xs
has_pair-from_count same [] = refl
has_pair-from_count same (x ∷ xs) =
    counted (list_any (same x) xs) x (unique_keys same xs) (length xs) (has_pair same xs) (distinct_count-le same xs) (has_pair-from_count same xs)

-- no element passes
pub each_fails : {A : Type 0} (test : A → Bool) (xs : List A) → list_any test xs ≡ false → AllByRecursion (λ x. test x ≡ false) xs
each_fails test [] none = tt
each_fails test (x ∷ xs) none =
    let parts = or_parts (test x) (list_any test xs) none in (parts.0, each_fails test xs parts.1)

-- where each fails, none passes
pub none_passes : {A : Type 0} (test : A → Bool) (xs : List A) → AllByRecursion (λ x. test x ≡ false) xs → list_any test xs ≡ false
none_passes test [] each = refl
none_passes test (x ∷ xs) each = or_from (test x) (list_any test xs) each.0 (none_passes test xs each.1)

-- no two elements go with one another
pub IsDistinct-from_has_pair : {A : Type 0} (goes_with : A → A → Bool) (xs : List A) → has_pair goes_with xs ≡ false → IsDistinct goes_with xs
unfolding IsDistinct
IsDistinct-from_has_pair goes_with [] none = tt
IsDistinct-from_has_pair goes_with (x ∷ xs) none =
    let parts = or_parts (list_any (goes_with x) xs) (has_pair goes_with xs) none in
    (each_fails (goes_with x) xs parts.0, IsDistinct-from_has_pair goes_with xs parts.1)

-- elements of which no two go with one another make no pair
pub has_pair-from_IsDistinct : {A : Type 0} (goes_with : A → A → Bool) (xs : List A) → IsDistinct goes_with xs → has_pair goes_with xs ≡ false
unfolding IsDistinct
has_pair-from_IsDistinct goes_with [] distinct = refl
has_pair-from_IsDistinct goes_with (x ∷ xs) distinct =
    or_from (list_any (goes_with x) xs) (has_pair goes_with xs) (none_passes (goes_with x) xs distinct.0) (has_pair-from_IsDistinct goes_with xs distinct.1)

-- pairs of a relation are those of one that is the same
pub has_pair-alike : {A : Type 0} (one other : A → A → Bool) → ((x y : A) → one x y ≡ other x y) → (xs : List A) → has_pair one xs ≡ has_pair other xs
has_pair-alike {A} one other same xs = ap (λ (goes_with : A → A → Bool). has_pair goes_with xs) (fun_ext (λ x. fun_ext (λ y. same x y)))
