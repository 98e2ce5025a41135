-- The next number of a range.
use Rattle.std.proofs.Common.{◌≡◌, ◌+◌, ◌<◌, ◌≤◌, ◌&&◌}
use Rattle.text_core.proofs.Kit.{ℕ, suc, zero, nat_le, Bool, true, false, Option, Some, None, find, option_map, inl, inr, refl, sym, ap, arith, both_ways}
use Rattle.text_core.proofs.Kit.{cases_Bool, cases_lt, and_parts, le-leb, leb-true, not-true, false_from_ne_true, none-some, same_Some, range_with_len}
use Rattle.text_core.proofs.Kit.{find-passes}
use Rattle.id_ranges.specs.Prelude.{TextSet, is_unused, next_serial, next_serial_from, with_text, Range, Has, serial_text, IsLeastUnused}
use Rattle.id_ranges.proofs.Ranges.{fails-from_find, find-range_some, find-range_none, in_range-from_find}

-- two tests that agree on a range find the same in it
find-range_same : (p q : ℕ → Bool) (first count : ℕ) → ((k : ℕ) → first ≤ k → k < first + count → p k ≡ q k)
    → find p (range_with_len first count) ≡ find q (range_with_len first count)
find-range_same p q first zero same = refl
find-range_same p q first (suc n) same =
    rw (same first (omega arith) (omega arith), find-range_same p q (first + 1) n (λ k low high. same k (omega arith) (omega arith))) refl

-- a number below the cursor isn't taken
below : (cursor : ℕ) (given : TextSet) (r : Range) (k : ℕ) → k < cursor → (nat_le cursor k && is_unused given r k) ≡ false
below cursor given r k low =
    let past : nat_le cursor k ≡ false = false_from_ne_true _ (λ is. let le = leb-true cursor k is in absurd (omega arith)) in
    rw past refl

-- nor is one that is given
taken : (cursor : ℕ) (given : TextSet) (r : Range) (k : ℕ) → (cursor ≤ k → given (serial_text r k) ≡ true) → (nat_le cursor k && is_unused given r k) ≡ false
taken cursor given r k is =
    elim (cases_lt k cursor) [
      | inl low ↦ below cursor given r k low
      | inr high ↦ rw (le-leb cursor k high, is high) refl
    ]

-- a cursor that skips given numbers alone
pub cursor_skips : (cursor : ℕ) (given : TextSet) (r : Range) → ((n : ℕ) → Has r n → n < cursor → given (serial_text r n) ≡ true)
    → next_serial_from cursor given r ≡ next_serial given r
cursor_skips cursor given r all =
    ap (option_map (with_text r)) (find-range_same (λ n. nat_le cursor n && is_unused given r n) (is_unused given r) r.first r.quantity (λ k low high.
    elim (cases_lt k cursor) [
      | inl before ↦ rw (below cursor given r k before, all k (low, high) before) refl
      | inr after ↦ rw (le-leb cursor k after) refl
    ]))

-- the first number from the cursor on that isn't given is the next one
pub next_here : (cursor : ℕ) (given : TextSet) (r : Range) (n : ℕ) → Has r n → cursor ≤ n → given (serial_text r n) ≡ false
    → ((k : ℕ) → r.first ≤ k → cursor ≤ k → k < n → given (serial_text r k) ≡ true) → next_serial_from cursor given r ≡ Some (n, serial_text r n)
next_here cursor given r n has high free before =
    let passes : (nat_le cursor n && is_unused given r n) ≡ true = rw (le-leb cursor n high, free) refl in
    ap (option_map (with_text r)) (find-range_some (λ k. nat_le cursor k && is_unused given r k) r.first r.quantity n has.0 has.1 passes (λ j above low.
    taken cursor given r j (λ from. before j above from low)))

-- where each number from the cursor on is given there is none
pub next_none : (cursor : ℕ) (given : TextSet) (r : Range) → ((k : ℕ) → r.first ≤ k → cursor ≤ k → k < r.first + r.quantity → given (serial_text r k) ≡ true)
    → next_serial_from cursor given r ≡ None
next_none cursor given r all =
    ap (option_map (with_text r)) (find-range_none (λ k. nat_le cursor k && is_unused given r k) r.first r.quantity (λ j above low.
    taken cursor given r j (λ from. all j above from low)))

-- a number of a range before the one that is found fails
fails-before_found : (p : ℕ → Bool) (first count k j : ℕ) → find p (range_with_len first count) ≡ Some k → first ≤ j → j < k → p j ≡ false
fails-before_found p first zero k j found low high = absurd (none-some k found)
fails-before_found p first (suc n) k j found low high =
    elim (cases_Bool (p first)) [
      | inl passes ↦ let same : first ≡ k = same_Some first k (rw passes at found) in absurd (omega arith)
      | inr fails ↦
          elim (cases_lt first j) [
            | inl past ↦ fails-before_found p (first + 1) n k j (rw fails at found) (omega arith) high
            | inr here ↦ let same : first ≡ j = omega arith in rw same at fails
          ]
    ]

-- what is found, by what is said of it
found_number : (r : Range) (n : ℕ) (o : Option ℕ) → option_map (with_text r) o ≡ Some (n, serial_text r n) → o ≡ Some n
found_number r n None found = absurd (none-some (n, serial_text r n) found)
found_number r n (Some m) found = ap (λ next. Some next.0) (same_Some (m, serial_text r m) (n, serial_text r n) found)

found_none : (r : Range) (o : Option ℕ) → option_map (with_text r) o ≡ None → o ≡ None
found_none r None none = refl
found_none r (Some m) none = absurd (none-some (m, serial_text r m) (sym none))

-- a number from the cursor on that isn't taken is given
given-from_fails : (cursor : ℕ) (given : TextSet) (r : Range) (k : ℕ) → cursor ≤ k → (nat_le cursor k && is_unused given r k) ≡ false
    → given (serial_text r k) ≡ true
given-from_fails cursor given r k high fails =
    elim (cases_Bool (given (serial_text r k))) [
      | inl is ↦ is
      | inr isnt ↦
          let passes : (nat_le cursor k && is_unused given r k) ≡ true = rw (le-leb cursor k high, isnt) refl in
          absurd (both_ways _ fails passes)
    ]

-- the next serial number is that of the least number that isn't given
pub next_is_least : (cursor : ℕ) (given : TextSet) (r : Range) (n : ℕ) → next_serial_from cursor given r ≡ Some (n, serial_text r n)
    → IsLeastUnused cursor given r n
next_is_least cursor given r n next =
    let p : ℕ → Bool = λ k. nat_le cursor k && is_unused given r k in
    let found : find p (range_with_len r.first r.quantity) ≡ Some n = found_number r n (find p (range_with_len r.first r.quantity)) next in
    let parts = and_parts (nat_le cursor n) (is_unused given r n) (find-passes p (range_with_len r.first r.quantity) n found) in
    record {
      has = in_range-from_find p r.first r.quantity n found;
      from = leb-true cursor n parts.0;
      unused = not-true (given (serial_text r n)) parts.1;
      least = λ k has from low. given-from_fails cursor given r k from (fails-before_found p r.first r.quantity n k found has.0 low);
    }

pub least_is_next : (cursor : ℕ) (given : TextSet) (r : Range) (n : ℕ) → IsLeastUnused cursor given r n
    → next_serial_from cursor given r ≡ Some (n, serial_text r n)
least_is_next cursor given r n is =
    next_here cursor given r n is.has is.from is.unused (λ k low from before. is.least k (low, omega (arith, is.has.1)) from before)

-- where there is none each number from the cursor on is given
pub none_is_left : (cursor : ℕ) (given : TextSet) (r : Range) → next_serial_from cursor given r ≡ None → (k : ℕ) → Has r k → cursor ≤ k
    → given (serial_text r k) ≡ true
none_is_left cursor given r none k has from =
    let p : ℕ → Bool = λ j. nat_le cursor j && is_unused given r j in
    let fails = fails-from_find p r.first r.quantity k (found_none r (find p (range_with_len r.first r.quantity)) none) has.0 has.1 in
    given-from_fails cursor given r k from fails
