-- The words of a set of positions are those that the set was made of.
use Rattle.std.specs.Prelude.{◌≡◌, ℕ, zero, suc, ◌+◌, ◌*◌, ◌/◌, ◌%◌, ◌^◌, ◌<◌, Bool, ◌&&◌, ◌==◌, List, length, slice_index, if◌then◌else◌, refl}
use Rattle.std.proofs.Common.{sym, ap, ap₂, ◌∙◌, arith, mod-eq_of_lt, one-add}
use native.Mathlib.Nat.{mod-one}
use Rattle.std.specs.Int.{bit_at}
use Rattle.std.specs.FinSet as set
use Rattle.std.proofs.lemmas.Bool.{and_from, lt-ltb}
use Rattle.std.proofs.lemmas.List.FromFn.{fill_by_all}
use Rattle.std.proofs.lemmas.Nat.{mod-pow-add}
use Rattle.std.proofs.lemmas.Nat.Bits.{bit_at-lt}
use Rattle.fuse_image.specs.Places.{places_where, contains-places_where}
use Rattle.fuse_image.specs.Words.{bit_in, number_with, position_of_bit, word_of, words_of_set}

-- 32 words of 32 bits
pub record AreWords (words : List ℕ) : Type 0 where
  pub count : length words ≡ 32
  pub small : (word : ℕ) → slice_index words word < 2 ^ 32

-- tests that agree below n give one number
pub same_number : (f g : ℕ → Bool) (n : ℕ) → ((m : ℕ) → m < n → f m ≡ g m) → number_with f n ≡ number_with g n
unfolding number_with
same_number f g zero agree = refl
same_number f g (suc n) agree =
    ap₂ (λ (k : ℕ) (b : Bool). k + (if b then 2 ^ n else 0)) (same_number f g n (λ m low. agree m (omega (arith, low)))) (agree n (omega arith))

-- the number with the ones of a number below 2 to the power of n
one_bit : (bit worth : ℕ) → bit < 2 → (if bit == 1 then worth else 0) ≡ bit * worth
one_bit zero worth h = omega arith
one_bit (suc zero) worth h = omega arith
one_bit (suc (suc bit)) worth h = absurd (omega (arith, h))

number_with-bits : (x n : ℕ) → number_with (λ i. bit_at x i == 1) n ≡ x % 2 ^ n
unfolding number_with
number_with-bits x zero = sym (mod-one x)
number_with-bits x (suc n) =
    ap₂ (λ (a b : ℕ). a + b) (number_with-bits x n) (one_bit (bit_at x n) (2 ^ n) (bit_at-lt x n))
    ∙ omega (arith, mod-pow-add x 1 n, ap (λ (k : ℕ). x % 2 ^ k) (one-add n))

-- the position of a bit is in the set where the bit is 1
pub contains-place_of : (words : List ℕ) (word bit : ℕ) → word < 32 → bit < 32
    → set.contains (places_where (bit_in words)) (position_of_bit word bit) ≡ (bit_at (slice_index words word) bit == 1)
contains-place_of words word bit low small =
    let index : 8 * (word / 8) + (32 * (word % 8) + bit) / 32 ≡ word = omega (arith, small) in
    let place : (32 * (word % 8) + bit) % 32 ≡ bit = omega (arith, small) in
    contains-places_where (bit_in words) (position_of_bit word bit)
    ∙ (ap (λ (b : Bool). b && bit_in words (position_of_bit word bit))
    (and_from _ _ (lt-ltb (word / 8) 4 (omega (arith, low))) (lt-ltb (32 * (word % 8) + bit) 256 (omega (arith, small))))
    ∙ ap₂ (λ (w b : ℕ). bit_at (slice_index words w) b == 1) index place)

-- words are those of the set of their bits that are 1
pub words_again : (words : List ℕ) → AreWords words → words_of_set (places_where (bit_in words)) ≡ words
unfolding words_of_set
words_again words are = sym (fill_by_all (word_of (places_where (bit_in words))) words 32 0 are.count (λ word low.
    sym (same_number (λ bit.
    set.contains (places_where (bit_in words)) (position_of_bit word bit)) (λ bit.
    bit_at (slice_index words word) bit == 1) 32 (λ bit small.
    contains-place_of words word bit low small)
    ∙ (number_with-bits (slice_index words word) 32 ∙ mod-eq_of_lt (are.small word)))))
