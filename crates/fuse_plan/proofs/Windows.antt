-- Where the ones of a number lie that begins at some bit of a block, word by word.
use Rattle.text_core.proofs.Kit.{length, subst, ℕ, Bool, true, false, not, List, refl, sym, ap, ap₂, ◌∙◌, inl, inr, arith, nat_le, nat_lt, slice_index, bit_at}
use Rattle.text_core.proofs.Kit.{cases_eq, cases_lt, cond-true, cond-false, le-leb, lt-leb, lt-ltb, le-ltb, get_or-set_same, get_or-set_other, pow-add}
use Rattle.text_core.proofs.Kit.{bit_at_cat_low, bit_at_cat_high, bit_at-zero, div-div-eq-div-mul}
use Rattle.std.proofs.Common.{set as set_word, ◌≡◌, ◌+◌, ◌-◌, ◌*◌, ◌/◌, ◌%◌, ◌^◌, ◌<◌, ◌≤◌, ◌&&◌, ◌==◌, if◌then◌else◌}
use Rattle.std.specs.FinSet as set
use Rattle.fuse_plan.proofs.Types.{Field, Pos}
use Rattle.fusemap_core.specs.Prelude.{holds}
use Rattle.fuse_image.specs.Prelude.{places_where, bit_in, position_of_bit}
use Rattle.fuse_image.proofs.Sets.{places_where-at, same_places, none_outside}
use Rattle.fuse_plan.specs.Prelude.{number_has_one, is_one_from}
use Rattle.fuse_plan.proofs.Asked.{same_test, difference-of_tests, intersection-of_tests}

-- bit i of a number that is moved down by k bits and cut to 32 bits
bit_at-div : (n k i : ℕ) → bit_at (n / 2 ^ k) i ≡ bit_at n (k + i)
bit_at-div n k i = ap (λ (x : ℕ). x % 2) (div-div-eq-div-mul n (2 ^ k) (2 ^ i) ∙ ap (λ (x : ℕ). n / x) (sym (pow-add 2 k i)))

bit_at-mod : (n i : ℕ) → i < 32 → bit_at (n % 2 ^ 32) i ≡ bit_at n i
bit_at-mod n i low =
    sym (bit_at_cat_low (n / 2 ^ 32) 32 (n % 2 ^ 32) i low)
    ∙ (let whole : n / 2 ^ 32 * 2 ^ 32 + n % 2 ^ 32 ≡ n = omega arith in ap (λ (x : ℕ). bit_at x i) whole)

-- two words, one above the other, moved down by 32 - s bits
pub shifted-bit : (upper lower s i : ℕ) → lower < 2 ^ 32 → s < 32 → i < 32
    → bit_at ((upper * 2 ^ 32 + lower) / 2 ^ (32 - s) % 2 ^ 32) i ≡ (if nat_lt i s then bit_at lower (32 + i - s) else bit_at upper (i - s))
shifted-bit upper lower s i small low within =
    bit_at-mod ((upper * 2 ^ 32 + lower) / 2 ^ (32 - s)) i within
    ∙ (bit_at-div (upper * 2 ^ 32 + lower) (32 - s) i
    ∙ elim (cases_lt i s) as (λ _. bit_at (upper * 2 ^ 32 + lower) (32 - s + i) ≡ (if nat_lt i s then bit_at lower (32 + i - s) else bit_at upper (i - s))) [
      | inl below ↦
          bit_at_cat_low upper 32 lower (32 - s + i) (omega (arith, below, low))
          ∙ ((let same : 32 - s + i ≡ 32 + i - s = omega (arith, low) in ap (bit_at lower) same)
          ∙ sym (cond-true (nat_lt i s) (bit_at lower (32 + i - s)) (bit_at upper (i - s)) (lt-ltb i s below)))
      | inr above ↦
          bit_at_cat_high upper 32 lower (32 - s + i) small (omega (arith, above, low))
          ∙ ((let same : 32 - s + i - 32 ≡ i - s = omega (arith, above, low) in ap (bit_at upper) same)
          ∙ sym (cond-false (nat_lt i s) (bit_at lower (32 + i - s)) (bit_at upper (i - s)) (le-ltb i s above)))
    ])

-- the word that stands so many words further up
abbrev pub past : List ℕ → ℕ → ℕ → ℕ
past v word skipped = if nat_le skipped word then slice_index v (word - skipped) else 0

at_word : (v : List ℕ) (word skipped rest n : ℕ) → skipped ≤ word → rest < 32 → n ≡ 32 * (word - skipped) + rest
    → bit_at (past v word skipped) rest ≡ bit_at (slice_index v (n / 32)) (n % 32)
at_word v word skipped rest n within low e =
    let index : word - skipped ≡ n / 32 = omega (arith, e, low) in
    let bit : rest ≡ n % 32 = omega (arith, e, low) in
    ap (λ (x : ℕ). bit_at x rest) (cond-true (nat_le skipped word) (slice_index v (word - skipped)) 0 (le-leb skipped word within))
    ∙ ap₂ (λ (k i : ℕ). bit_at (slice_index v k) i) index bit

past_none : (v : List ℕ) (word skipped rest : ℕ) → word < skipped → bit_at (past v word skipped) rest ≡ 0
past_none v word skipped rest under =
    ap (λ (x : ℕ). bit_at x rest) (cond-false (nat_le skipped word) (slice_index v (word - skipped)) 0 (lt-leb skipped word under)) ∙ bit_at-zero rest

-- a bit of a word of a block in which the number begins at bit s
one_there : (le : Bool) (x y : ℕ) → le ≡ true → x ≡ y → (x == 1) ≡ (le && (y == 1))
one_there le x y a b = ap₂ (λ (p : Bool) (n : ℕ). p && (n == 1)) (sym a) b

none_there : (le h : Bool) (x : ℕ) → le ≡ false → x ≡ 0 → (x == 1) ≡ (le && h)
none_there le h x a b = ap (λ (n : ℕ). n == 1) b ∙ ap (λ (p : Bool). p && h) (sym a)

abbrev pub window_bit : List ℕ → ℕ → ℕ → ℕ → ℕ
window_bit v word s i = if nat_lt i (s % 32) then bit_at (past v word (s / 32 + 1)) (32 + i - s % 32) else bit_at (past v word (s / 32)) (i - s % 32)

pub window-is : (v : List ℕ) (word s i : ℕ) → i < 32 → (window_bit v word s i == 1) ≡ (nat_le s (32 * word + i) && number_has_one v (32 * word + i - s))
window-is v word s i low =
    elim (cases_lt i (s % 32)) as (λ _. (window_bit v word s i == 1) ≡ (nat_le s (32 * word + i) && number_has_one v (32 * word + i - s))) [
      | inl below ↦
          ap (λ (n : ℕ). n == 1) (cond-true (nat_lt i (s % 32)) _ _ (lt-ltb i (s % 32) below))
          ∙ elim (cases_lt word (s / 32 + 1)) as (λ _. (bit_at (past v word (s / 32 + 1)) (32 + i - s % 32) == 1)
          ≡ (nat_le s (32 * word + i) && number_has_one v (32 * word + i - s))) [
            | inl under ↦
                none_there (nat_le s (32 * word + i)) _ _ (lt-leb s (32 * word + i) (omega (arith, below, under)))
                (past_none v word (s / 32 + 1) (32 + i - s % 32) under)
            | inr within ↦ one_there (nat_le s (32 * word + i)) _ _ (le-leb s (32 * word + i) (omega (arith, within)))
                (at_word v word (s / 32 + 1) (32 + i - s % 32) (32 * word + i - s) within (omega (arith, below)) (omega (arith, below, within)))
          ]
      | inr above ↦
          ap (λ (n : ℕ). n == 1) (cond-false (nat_lt i (s % 32)) _ _ (le-ltb i (s % 32) above))
          ∙ elim (cases_lt word (s / 32)) as (λ _. (bit_at (past v word (s / 32)) (i - s % 32) == 1)
          ≡ (nat_le s (32 * word + i) && number_has_one v (32 * word + i - s))) [
            | inl under ↦
                none_there (nat_le s (32 * word + i)) _ _ (lt-leb s (32 * word + i) (omega (arith, low, under))) (past_none v word (s / 32) (i - s % 32) under)
            | inr within ↦ one_there (nat_le s (32 * word + i)) _ _ (le-leb s (32 * word + i) (omega (arith, above, within)))
                (at_word v word (s / 32) (i - s % 32) (32 * word + i - s) within (omega (arith, low)) (omega (arith, above, within)))
          ]
    ]

-- the set of words that are right bit by bit
pub words_are : (words : List ℕ) (test : Pos → Bool) → ((word bit : ℕ) → word < 32 → bit < 32
    → (bit_at (slice_index words word) bit == 1) ≡ test (position_of_bit word bit)) → places_where (bit_in words) ≡ places_where test
words_are words test each =
    same_places (bit_in words) (places_where test)
    (λ p is.
    each (8 * p.block + p.bit / 32) (p.bit % 32) (omega (arith, is.0, is.1)) (omega arith)
    ∙ (let block : (8 * p.block + p.bit / 32) / 8 ≡ p.block = omega (arith, is.1) in
    let bit : 32 * ((8 * p.block + p.bit / 32) % 8) + p.bit % 32 ≡ p.bit = omega (arith, is.1) in
    ap₂ (λ (b i : ℕ). test (record { block = b; bit = i })) block bit ∙ sym (places_where-at test p is)))
    (none_outside test)

-- the zeros and the ones of a number in a field
zero_where : (b le lt h : Bool) → ((b && (le && lt)) && not (b && (le && h))) ≡ ((b && (le && lt)) && not h)
zero_where true true lt h = refl
zero_where true false lt h = refl
zero_where false le lt h = refl

pub zeros_are : (f : Field) (v : List ℕ) → set.difference (places_where (holds f)) (places_where (is_one_from v (record { block = f.block; bit = f.bit })))
    ≡ places_where (λ p. holds f p && not (number_has_one v (p.bit - f.bit)))
zeros_are f v =
    difference-of_tests (holds f) (is_one_from v (record { block = f.block; bit = f.bit }))
    ∙ same_test _ (λ p. holds f p && not (number_has_one v (p.bit - f.bit))) (λ p.
    zero_where (f.block == p.block) (nat_le f.bit p.bit) (nat_lt p.bit (f.bit + f.count)) (number_has_one v (p.bit - f.bit)))

one_where : (b le lt h : Bool) → ((b && (le && lt)) && (b && (le && h))) ≡ ((b && (le && lt)) && h)
one_where true true lt h = refl
one_where true false lt h = refl
one_where false le lt h = refl

pub ones_are : (f : Field) (v : List ℕ) → set.intersection (places_where (holds f)) (places_where (is_one_from v (record { block = f.block; bit = f.bit })))
    ≡ places_where (λ p. holds f p && number_has_one v (p.bit - f.bit))
ones_are f v =
    intersection-of_tests (holds f) (is_one_from v (record { block = f.block; bit = f.bit }))
    ∙ same_test _ (λ p. holds f p && number_has_one v (p.bit - f.bit)) (λ p.
    one_where (f.block == p.block) (nat_le f.bit p.bit) (nat_lt p.bit (f.bit + f.count)) (number_has_one v (p.bit - f.bit)))

-- one word more that is right
pub one_word_more : (Q : ℕ → ℕ → Type 0) (words : List ℕ) (n value : ℕ) → n < length words → ((k : ℕ) → k < n → Q k (slice_index words k)) → Q n value → (k : ℕ)
    → k < n + 1 → Q k (slice_index (set_word words n value) k)
one_word_more Q words n value within each here k low = elim (cases_eq k n) as (λ _. Q k (slice_index (set_word words n value) k)) [
  | inl e ↦ subst (λ (j : ℕ). Q j (slice_index (set_word words n value) j)) (sym e) (subst (Q n) (sym (get_or-set_same words n value 0 within)) here)
  | inr other ↦ subst (Q k) (sym (get_or-set_other words n k value 0 other)) (each k (omega (arith, low, other)))
]
