-- Tests of the numbers of a range.
use Rattle.std.proofs.Common.{◌≡◌, ◌+◌, ◌<◌, ◌≤◌}
use Rattle.text_core.proofs.Kit.{ℕ, suc, zero, Bool, true, false, Some, None, find, inl, inr, refl, ap, sym, arith, and_parts, cases_lt, cases_Bool, none-some}
use Rattle.text_core.proofs.Kit.{same_Some, list_all, range_with_len}

-- a test that each number of a range passes
pub list_all-range : (p : ℕ → Bool) (first count : ℕ) → ((k : ℕ) → first ≤ k → k < first + count → p k ≡ true) → list_all p (range_with_len first count) ≡ true
list_all-range p first zero h = refl
list_all-range p first (suc n) h =
    rw (h first (omega arith) (omega arith)) (list_all-range p (first + 1) n (λ k low high. h k (omega arith) (omega arith)))

-- each number of a range whose numbers all pass
pub in_list_all-range : (p : ℕ → Bool) (first count k : ℕ) → list_all p (range_with_len first count) ≡ true → first ≤ k → k < first + count → p k ≡ true
in_list_all-range p first zero k h low high = absurd (omega arith)
in_list_all-range p first (suc n) k h low high =
    let parts = and_parts (p first) (list_all p (range_with_len (first + 1) n)) h in
    elim (cases_lt first k) [
      | inl past ↦ in_list_all-range p (first + 1) n k parts.1 (omega arith) (omega arith)
      | inr here ↦ let same : first ≡ k = omega arith in rw same at parts.0
    ]

-- the first number of a range that passes
pub find-range_some : (p : ℕ → Bool) (first count k : ℕ) → first ≤ k → k < first + count → p k ≡ true → ((j : ℕ) → first ≤ j → j < k → p j ≡ false)
    → find p (range_with_len first count) ≡ Some k
find-range_some p first zero k low high h none = absurd (omega arith)
find-range_some p first (suc n) k low high h none =
    elim (cases_lt first k) [
      | inl past ↦
          rw (none first (omega arith) past) (find-range_some p (first + 1) n k (omega arith) (omega arith) h (λ j above below. none j (omega arith) below))
      | inr here ↦
          let same : k ≡ first = omega arith in
          let passes = rw same at h in
          rw passes (ap Some (sym same))
    ]

-- no number of a range passes
pub find-range_none : (p : ℕ → Bool) (first count : ℕ) → ((j : ℕ) → first ≤ j → j < first + count → p j ≡ false) → find p (range_with_len first count) ≡ None
find-range_none p first zero none = refl
find-range_none p first (suc n) none =
    rw (none first (omega arith) (omega arith)) (find-range_none p (first + 1) n (λ j above below. none j (omega arith) (omega arith)))

-- what is found in a range is one of its numbers
pub in_range-from_find : (p : ℕ → Bool) (first count k : ℕ) → find p (range_with_len first count) ≡ Some k → (first ≤ k) × (k < first + count)
in_range-from_find p first zero k found = absurd (none-some k found)
in_range-from_find p first (suc n) k found =
    elim (cases_Bool (p first)) [
      | inl passes ↦
          let same : first ≡ k = same_Some first k (rw passes at found) in
          (omega arith, omega arith)
      | inr fails ↦
          let later = in_range-from_find p (first + 1) n k (rw fails at found) in
          (omega arith, omega arith)
    ]

-- where nothing is found in a range, each of its numbers fails
pub fails-from_find : (p : ℕ → Bool) (first count k : ℕ) → find p (range_with_len first count) ≡ None → first ≤ k → k < first + count → p k ≡ false
fails-from_find p first zero k none low high = absurd (omega arith)
fails-from_find p first (suc n) k none low high =
    elim (cases_Bool (p first)) [
      | inl passes ↦ absurd (none-some first (sym (rw passes at none)))
      | inr fails ↦
          elim (cases_lt first k) [
            | inl past ↦ fails-from_find p (first + 1) n k (rw fails at none) (omega arith) (omega arith)
            | inr here ↦ let same : first ≡ k = omega arith in rw same at fails
          ]
    ]
