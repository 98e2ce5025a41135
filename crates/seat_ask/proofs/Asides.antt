-- Requests that are kept aside, each once.
use Rattle.std.proofs.Common.{◌≡◌, ◌≤◌, ◌+◌, ◌-◌, ◌==◌, ◌∙◌, ℕ, zero, suc, List, [], ◌∷◌, ◌++◌, Bool, true, false, refl, sym, ap, arith, inl, inr}
use Rattle.std.proofs.Common.{append-nil, append_assoc, drop, filter, fold, length, length-append, not, subst}
use Rattle.std.proofs.lemmas.Bool.{and_from, and_parts, cases_Bool}
use Rattle.std.proofs.lemmas.List.Elements.{filter-append}
use Rattle.std.specs.List.{list_all}
use Rattle.seat_core.specs.Prelude.{aside_with, newest_of}
use Rattle.seat_ask.specs.Prelude.{AreNew, aside_of, is_new}

-- what passes the test throughout stays whole
filter_whole : (test : ℕ → Bool) (names : List ℕ) → list_all test names ≡ true → filter test names ≡ names
filter_whole test [] all = refl
filter_whole test (n ∷ ns) all =
    let parts = and_parts (test n) (list_all test ns) all in
    rw parts.0 (ap (λ rest. n ∷ rest) (filter_whole test ns parts.1))

-- one more that is new
kept_one : (name : ℕ) (before : List ℕ) → is_new name before ≡ true → length before ≤ 15
    → aside_with name before ≡ before ++ name ∷ []
kept_one name before new few =
    let none : length before - 15 ≡ 0 = omega arith in
    ap (λ kept. newest_of kept ++ name ∷ []) (filter_whole (λ kept. not (kept == name)) before new)
    ∙ ap (λ count. drop count before ++ name ∷ []) none

kept_all : (before names : List ℕ) → AreNew before names → length before + length names ≤ 16
    → fold (λ aside name. aside_with name aside) before names ≡ before ++ names
kept_all before [] new few = sym (append-nil before)
kept_all before (n ∷ ns) new few =
    let long : length (before ++ n ∷ []) ≡ length before + 1 = length-append before (n ∷ []) in
    ap (λ aside. fold (λ aside name. aside_with name aside) aside ns) (kept_one n before new.0 (omega arith))
    ∙ kept_all (before ++ n ∷ []) ns new.1 (omega arith) ∙ append_assoc before (n ∷ []) ns

-- names that are kept aside one after another are all aside, in order
pub aside_of-new : (names : List ℕ) → AreNew [] names → length names ≤ 16 → aside_of names ≡ names
aside_of-new names new few = kept_all [] names new (omega arith)

-- a name that is none of some is none of those of them that pass a test
new_filter : (test : ℕ → Bool) (name : ℕ) (names : List ℕ) → is_new name names ≡ true → is_new name (filter test names) ≡ true
new_filter test name [] new = refl
new_filter test name (n ∷ ns) new =
    let parts = and_parts (not (n == name)) (is_new name ns) new in
    elim (cases_Bool (test n)) [
      | inl passes ↦ rw passes (and_from (not (n == name)) _ parts.0 (new_filter test name ns parts.1))
      | inr fails ↦ rw fails (new_filter test name ns parts.1)
    ]

-- one with a name more behind them
new_append : (name : ℕ) (names more : List ℕ) → is_new name names ≡ true → is_new name more ≡ true → is_new name (names ++ more) ≡ true
new_append name [] more new those = those
new_append name (n ∷ ns) more new those =
    let parts = and_parts (not (n == name)) (is_new name ns) new in
    and_from (not (n == name)) _ parts.0 (new_append name ns more parts.1 those)

-- one more that passes, or doesn't
filter_in : (test : ℕ → Bool) (before : List ℕ) (n : ℕ) → test n ≡ true → filter test (before ++ n ∷ []) ≡ filter test before ++ n ∷ []
filter_in test before n passes =
    let one : filter test (n ∷ []) ≡ n ∷ [] = rw passes refl in
    filter-append test before (n ∷ []) ∙ ap (λ more. filter test before ++ more) one

filter_out : (test : ℕ → Bool) (before : List ℕ) (n : ℕ) → test n ≡ false → filter test (before ++ n ∷ []) ≡ filter test before
filter_out test before n fails =
    let none : filter test (n ∷ []) ≡ [] = rw fails refl in
    filter-append test before (n ∷ []) ∙ ap (λ more. filter test before ++ more) none ∙ append-nil (filter test before)

-- those that pass a test are each once where all are
once_filter : (test : ℕ → Bool) (before names : List ℕ) → AreNew before names → AreNew (filter test before) (filter test names)
once_filter test before [] new = tt
once_filter test before (n ∷ ns) new =
    let rest = once_filter test (before ++ n ∷ []) ns new.1 in
    elim (cases_Bool (test n)) [
      | inl passes ↦
          let all = filter_in test before n passes in
          rw passes (new_filter test n before new.0, rw all at rest)
      | inr fails ↦
          let all = filter_out test before n fails in
          rw fails (rw all at rest)
    ]

-- fewer before them
once_fewer : (first : ℕ) (before names : List ℕ) → AreNew (first ∷ before) names → AreNew before names
once_fewer first before [] new = tt
once_fewer first before (n ∷ ns) new =
    ((and_parts (not (first == n)) (is_new n before) new.0).1, once_fewer first (before ++ n ∷ []) ns new.1)

-- the last of them
once_drop : (count : ℕ) (names : List ℕ) → AreNew [] names → AreNew [] (drop count names)
once_drop zero names new = new
once_drop (suc count) [] new = tt
once_drop (suc count) (n ∷ ns) new = once_drop count ns (once_fewer n [] ns new.1)

new_drop : (count name : ℕ) (names : List ℕ) → is_new name names ≡ true → is_new name (drop count names) ≡ true
new_drop zero name names new = new
new_drop (suc count) name [] new = refl
new_drop (suc count) name (n ∷ ns) new = new_drop count name ns (and_parts (not (n == name)) (is_new name ns) new).1

-- one more behind them that is none of them
once_more : (name : ℕ) (before names : List ℕ) → AreNew before names → is_new name (before ++ names) ≡ true → AreNew before (names ++ name ∷ [])
once_more name before [] new alone = (subst (λ names. is_new name names ≡ true) (append-nil before) alone, tt)
once_more name before (n ∷ ns) new alone =
    let all = subst (λ names. is_new name names ≡ true) (sym (append_assoc before (n ∷ []) ns)) alone in
    (new.0, once_more name (before ++ n ∷ []) ns new.1 all)

-- none of those without it
new_without : (name : ℕ) (names : List ℕ) → is_new name (filter (λ kept. not (kept == name)) names) ≡ true
new_without name [] = refl
new_without name (n ∷ ns) =
    elim (cases_Bool (not (n == name))) [
      | inl other ↦ rw other (and_from (not (n == name)) _ other (new_without name ns))
      | inr same ↦ rw same (new_without name ns)
    ]

-- what the machine keeps aside is there once
pub aside_with-once : (name : ℕ) (aside : List ℕ) → AreNew [] aside → AreNew [] (aside_with name aside)
aside_with-once name aside new =
    let others = filter (λ kept. not (kept == name)) aside in
    let some = once_filter (λ kept. not (kept == name)) [] aside new in
    once_more name [] (newest_of others) (once_drop (length others - 15) others some)
    (new_drop (length others - 15) name others (new_without name aside))
