-- Tests of a list's elements and of its pairs, and what they decide.
use Rattle.std.proofs.Common.{◌≡◌, ◌||◌, ◌∷◌}
use Rattle.text_core.proofs.Kit.{suc, Bool, true, false, not, List, [], Option, Some, None, All, AllPairs, IfSome, IsSomeAnd, Decides, refl, arith, is_none}
use Rattle.text_core.proofs.Kit.{list_all, option_map_or, false≢true, not-true, not_from_false, Decides-and, Decides-like, AllPairs-cons, Decides-list_all}
use Rattle.fusemap_core.specs.Prelude.{all_pairs}

-- the pairs of the first element with the others, and those of the others
pairs_of_first : {X : Type 0} (R : X → X → Type 0) (x : X) (xs : List X) → AllPairs R (x ∷ xs) → All (R x) xs
pairs_of_first R x xs pairs k d low = pairs 0 (suc k) d (omega arith) (omega arith)

pairs_of_others : {X : Type 0} (R : X → X → Type 0) (x : X) (xs : List X) → AllPairs R (x ∷ xs) → AllPairs R xs
pairs_of_others R x xs pairs i j d before low = pairs (suc i) (suc j) d (omega arith) (omega arith)

-- a test of each pair
pub Decides-all_pairs : {X : Type 0} (test : X → X → Bool) (R : X → X → Type 0) → ((x y : X) → Decides (test x y) (R x y)) → (xs : List X)
    → Decides (all_pairs test xs) (AllPairs R xs)
Decides-all_pairs test R each [] = (λ _ i j d before low. absurd (omega (arith, low)), λ _. refl)
Decides-all_pairs test R each (x ∷ xs) =
    Decides-like (all_pairs test (x ∷ xs)) (λ both. AllPairs-cons R x xs both.0 both.1) (λ pairs. (pairs_of_first R x xs pairs, pairs_of_others R x xs pairs))
    (Decides-and (list_all (test x) xs) (all_pairs test xs) (Decides-list_all (test x) (R x) (each x) xs) (Decides-all_pairs test R each xs))

-- a test of the value, if there is one, which fails or passes where there is none
pub Decides-some_and : {X : Type 0} (test : X → Bool) (P : X → Type 0) → ((x : X) → Decides (test x) (P x)) → (o : Option X)
    → Decides (option_map_or test o false) (IsSomeAnd o P)
Decides-some_and test P each None = (λ e. absurd (false≢true e), λ h. absurd h)
Decides-some_and test P each (Some x) = each x

pub Decides-if_some : {X : Type 0} (test : X → Bool) (P : X → Type 0) → ((x : X) → Decides (test x) (P x)) → (o : Option X)
    → Decides (option_map_or test o true) (IfSome o P)
Decides-if_some test P each None = (λ _. tt, λ _. refl)
Decides-if_some test P each (Some x) = each x

-- there is nothing
pub Decides-is_none : {X : Type 0} (o : Option X) → Decides (is_none o) (o ≡ None)
Decides-is_none None = (λ _. refl, λ _. refl)
Decides-is_none (Some x) = (λ e. absurd (false≢true e), λ e. cc)

-- the test fails
pub Decides-is_false : (b : Bool) → Decides (not b) (b ≡ false)
Decides-is_false b = (not-true b, not_from_false b)

-- the test passes
pub Decides-is_true : (b : Bool) → Decides b (b ≡ true)
Decides-is_true b = (λ e. e, λ e. e)

-- a test that matters under a condition
pub Decides-under : (condition test : Bool) (P : Type 0) → Decides test P → Decides (not condition || test) (condition ≡ true → P)
Decides-under true test P d = (λ e _. d.0 e, λ h. d.1 (h refl))
Decides-under false test P d = (λ _ e. absurd (false≢true e), λ _. refl)
