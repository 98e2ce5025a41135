-- What tests decide, and a test of each number of a range.
use Rattle.std.proofs.Common.{◌≡◌, ◌+◌, ◌<◌, ◌≤◌, ℕ, zero, suc, Bool, true, false, List, All, Decides, inl, inr, refl, sym, ap, ◌∙◌, arith}
use Rattle.std.proofs.lemmas.Bool.{cases_lt, false≢true, or_cases, or_left, or_right}
use Rattle.std.proofs.lemmas.Bool.Decides.{Decides-by_and}
use Rattle.std.specs.List.{list_all, list_any, range_with_len}

-- a test of each element
pub Decides-list_all : {X : Type 0} (test : X → Bool) (P : X → Type 0) → ((x : X) → Decides (test x) (P x)) → (xs : List X)
    → Decides (list_all test xs) (All P xs)
Decides-list_all test P each xs = Decides-by_and test P (list_all test) each refl (λ _ _. refl) xs

-- a test that fails decides that its rule is broken
pub broken_by : {P : Type 0} → Decides false P → P → ⊥
broken_by d holds = false≢true (d.1 holds)

-- a number of a range that passes
pub any_in_range : (p : ℕ → Bool) (first count k : ℕ) → first ≤ k → k < first + count → p k ≡ true → list_any p (range_with_len first count) ≡ true
any_in_range p first zero k low high passes = absurd (omega (arith, low, high))
any_in_range p first (suc n) k low high passes =
    elim (cases_lt first k) as (λ _. list_any p (range_with_len first (suc n)) ≡ true) [
      | inl past ↦ or_right (p first) _ (any_in_range p (first + 1) n k (omega arith) (omega arith) passes)
      | inr here ↦ let same : k ≡ first = omega arith in or_left (p first) _ (ap p (sym same) ∙ passes)
    ]

-- the number that does, where one does
pub in_range_any : (p : ℕ → Bool) (first count : ℕ) → list_any p (range_with_len first count) ≡ true
    → (k : ℕ) × (first ≤ k) × (k < first + count) × (p k ≡ true)
in_range_any p first zero h = absurd (false≢true h)
in_range_any p first (suc n) h =
    elim (or_cases (p first) (list_any p (range_with_len (first + 1) n)) h) [
      | inl here ↦ (first, omega arith, omega arith, here)
      | inr later ↦ let found = in_range_any p (first + 1) n later in (found.0, omega (arith, found.1), omega (arith, found.2), found.3)
    ]
