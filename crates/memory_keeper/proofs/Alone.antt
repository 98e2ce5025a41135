-- Tests that at most one row passes.
use Rattle.std.proofs.Common.{◌≡◌, ◌≤◌, ◌+◌, ◌∙◌, ℕ, arith, Bool, true, false, cond, List, [], ◌∷◌, length, Some, None, Ordering, Less, Equal, Greater, refl}
use Rattle.std.proofs.Common.{sym, ap, subst, filter, find, is_eq}
use Rattle.std.specs.Ordering.{match_ordering}
use Rattle.office_tables.specs.Prelude.{with_row}
use Rattle.memory_keeper.specs.Prelude.{IsAtMostOne, without}

module _ {A : Type 0} (test : A → Bool) where
  abbrev passing : List A → ℕ
  passing rows = length (filter test rows)

  first_passing : (y : A) (ys : List A) → passing (y ∷ ys) ≡ cond (test y) 1 0 + passing ys
  first_passing y ys =
      elim (test y) as (λ b. length (cond b (y ∷ filter test ys) (filter test ys)) ≡ cond b 1 0 + passing ys) [ true ↦ omega arith | false ↦ omega arith ]

  -- where none passes, none is found, and the other way round
  pub none_passing : (rows : List A) → find test rows ≡ None → passing rows ≡ 0
  none_passing [] none = refl
  none_passing (y ∷ ys) none =
      elim (test y) as (λ b. cond b (Some y) (find test ys) ≡ None → length (cond b (y ∷ filter test ys) (filter test ys)) ≡ 0)
      [ true ↦ λ miss. cc | false ↦ λ miss. none_passing ys miss ] none

  pub none_found : (rows : List A) → passing rows ≡ 0 → find test rows ≡ None
  none_found [] none = refl
  none_found (y ∷ ys) none =
      elim (test y) as (λ b. length (cond b (y ∷ filter test ys) (filter test ys)) ≡ 0 → cond b (Some y) (find test ys) ≡ None)
      [ true ↦ λ miss. absurd (omega (arith, miss)) | false ↦ λ miss. none_found ys miss ] none

  -- a new row is placed
  module _ (cmp : A → A → Ordering) (x : A) where
    pub passing-placed : (rows : List A) → find (λ y. is_eq (cmp x y)) rows ≡ None → passing (with_row cmp x rows) ≡ passing rows + cond (test x) 1 0
    passing-placed [] free = first_passing x [] ∙ omega arith
    passing-placed (y ∷ ys) free =
        elim (cmp x y) as (λ o. cond (is_eq o) (Some y) (find (λ z. is_eq (cmp x z)) ys) ≡ None
        → passing (match_ordering o (x ∷ y ∷ ys) (x ∷ ys) (y ∷ with_row cmp x ys)) ≡ passing (y ∷ ys) + cond (test x) 1 0) [
          | Less ↦ λ none. let split = first_passing x (y ∷ ys) in omega (arith, split)
          | Equal ↦ λ none. cc
          | Greater ↦ λ none. let split = first_passing y (with_row cmp x ys) in let was = first_passing y ys in let later =
              passing-placed ys none in omega (arith, split, was, later)
        ] free

    -- it is found where it passes and none did, and else what was found
    pub find-placed : (rows : List A) → find (λ y. is_eq (cmp x y)) rows ≡ None → (test x ≡ true → find test rows ≡ None)
        → find test (with_row cmp x rows) ≡ cond (test x) (Some x) (find test rows)
    find-placed [] free alone = refl
    find-placed (y ∷ ys) free alone =
        elim (cmp x y) as (λ o. cond (is_eq o) (Some y) (find (λ z. is_eq (cmp x z)) ys) ≡ None
        → find test (match_ordering o (x ∷ y ∷ ys) (x ∷ ys) (y ∷ with_row cmp x ys)) ≡ cond (test x) (Some x) (find test (y ∷ ys))) [
          | Less ↦ λ none. refl
          | Equal ↦ λ none. cc
          | Greater ↦ λ none.
              elim (test y) as (λ b. test y ≡ b → cond b (Some y) (find test (with_row cmp x ys)) ≡ cond (test x) (Some x) (cond b (Some y) (find test ys))) [
                | true ↦ λ is. elim (test x) as (λ a. test x ≡ a → Some y ≡ cond a (Some x) (Some y)) [
                  | true ↦
                      λ also. absurd (let miss : find test (y ∷ ys) ≡ None = alone also in let some : find test (y ∷ ys)
                      ≡ Some y = rw is refl in let both : None ≡ Some y = sym miss ∙ some in cc)
                  | false ↦ λ _. refl
                ] refl
                | false ↦ λ is. find-placed ys none (λ also. let miss : find test (y ∷ ys) ≡ None = alone also in rw is at miss)
              ] refl
        ] free

  -- a row that is found by another test is taken out
  module _ (other : A → Bool) (x : A) where
    pub passing-without : (rows : List A) → find other rows ≡ Some x → passing rows ≡ passing (without other rows) + cond (test x) 1 0
    passing-without [] found = cc
    passing-without (y ∷ ys) found =
        elim (other y) as (λ b. cond b (Some y) (find other ys) ≡ Some x → passing (y ∷ ys) ≡ passing (cond b ys (y ∷ without other ys)) + cond (test x) 1 0) [
          | true ↦ λ is. let same : y ≡ x = cc in let split = first_passing y ys in let one =
              ap {B = ℕ} (λ z. cond (test z) 1 0) same in omega (arith, split, one)
          | false ↦ λ is. let split = first_passing y ys in let after = first_passing y (without other ys) in let later =
              passing-without ys is in omega (arith, split, after, later)
        ] found

    still_found : (rows : List A) → find other rows ≡ Some x → test x ≡ false → find test (without other rows) ≡ find test rows
    still_found [] found fails = refl
    still_found (y ∷ ys) found fails =
        elim (other y) as (λ b. cond b (Some y) (find other ys) ≡ Some x → find test (cond b ys (y ∷ without other ys)) ≡ find test (y ∷ ys)) [
          | true ↦ λ is. let same : y ≡ x = cc in let also : test y ≡ false = subst (λ z. test z ≡ false) (sym same) fails in rw also refl
          | false ↦ λ is. let later = still_found ys is fails in rw later refl
        ] found

    -- it isn't found any more, and the others are
    pub find-without : (rows : List A) → find other rows ≡ Some x → passing rows ≤ 1 → find test (without other rows) ≡ cond (test x) None (find test rows)
    find-without rows found one =
        let split = passing-without rows found in
        elim (test x) as (λ b. test x ≡ b → find test (without other rows) ≡ cond b None (find test rows)) [
          | true ↦ λ is. let this : ◌≡◌ {A = ℕ} (cond (test x) 1 0) 1 = rw is refl in none_found (without other rows) (omega (arith, split, one, this))
          | false ↦ λ is. still_found rows found is
        ] refl

    -- what is found by another test and passes this one is found by this one, where no two pass
    pub found_also : (rows : List A) → find other rows ≡ Some x → test x ≡ true → passing rows ≤ 1 → find test rows ≡ Some x
    found_also [] found is one = cc
    found_also (y ∷ ys) found is one =
        elim (other y) as (λ b. cond b (Some y) (find other ys) ≡ Some x → find test (y ∷ ys) ≡ Some x) [
          | true ↦ λ e. let same : y ≡ x = cc in let passes : test y ≡ true = subst (λ z. test z ≡ true) (sym same) is in rw passes (ap (λ z. Some z) same)
          | false ↦ λ e.
              let later = found_also ys e is in
              let split = first_passing y ys in
              elim (test y) as (λ b. test y ≡ b → cond b (Some y) (find test ys) ≡ Some x) [
                | true ↦ λ here. absurd (
                    let this : ◌≡◌ {A = ℕ} (cond (test y) 1 0) 1 = rw here refl in
                    let none = none_found ys (omega (arith, split, one, this)) in
                    let some = later (omega (arith, split, one, this)) in
                    let both : None ≡ Some x = sym none ∙ some in cc)
                | false ↦ λ here. later (omega (arith, split, one))
              ] refl
        ] found

-- at most one row passes, where none did whose place the new one takes
pub still_alone : {A : Type 0} (cmp : A → A → Ordering) (test : A → Bool) (o : A) (rows : List A) → find (λ y.
    is_eq (cmp o y)) rows ≡ None → (test o ≡ true → find test rows ≡ None) → IsAtMostOne test rows → IsAtMostOne test (with_row cmp o rows)
still_alone cmp test o rows free alone one =
    let more = passing-placed test cmp o rows free in
    elim (test o) as (λ b. test o ≡ b → IsAtMostOne test (with_row cmp o rows)) [
      | true ↦ λ is. let none = none_passing test rows (alone is) in let this : ◌≡◌ {A = ℕ} (cond (test o) 1 0) 1 =
          rw is refl in omega (arith, more, none, this)
      | false ↦ λ is. let this : ◌≡◌ {A = ℕ} (cond (test o) 1 0) 0 = rw is refl in omega (arith, more, one, this)
    ] refl

pub alone_without : {A : Type 0} (test other : A → Bool) (o : A) (rows : List A) → find other rows ≡ Some o → IsAtMostOne test rows
    → IsAtMostOne test (without other rows)
alone_without test other o rows found one = let less = passing-without test other o rows found in omega (arith, less, one)
