-- Sets of positions by the bits of words.
use Rattle.std.proofs.Common.{◌≡◌, ◌+◌, ◌-◌, ◌*◌, ◌/◌, ◌%◌, ◌^◌, ◌<◌, ◌&&◌, ◌||◌, get_or, set as list_set, ◌↔◌, ◌==◌}
use Rattle.text_core.proofs.Kit.{ℕ, zero, suc, max, min, Bool, true, false, not, List, length, replicate, is_eq, refl, sym, ap, ap₂, ◌∙◌, inl, inr, arith}
use Rattle.text_core.proofs.Kit.{bit_and, bit_or, bit_at, bit_not, w32, cases_Bool, cases_eq, and_parts, and_from, and_left, and_right, or_from, or_left}
use Rattle.text_core.proofs.Kit.{eq-eqb, eqb-true, ne_eqb, true≢false, false_from_ne_true, eq_by_cmp, Equal-is, tied_itself, get_or-set_at}
use Rattle.text_core.proofs.Kit.{get_or-set_other, bit_at_or, bit_at_and, bit_at_not, bit_at-lt, bit_at-zero, bit_at_set_same, bit_at_set_other, shr_and_one}
use Rattle.text_core.proofs.Kit.{same_from_bits_below, one_truth}
use Rattle.std.specs.FinSet as set
use Rattle.fusemap_core.specs.declared.pos.Pos.{Pos}
use Rattle.fuse_image.specs.Prelude.{is_empty, Positions, pos_cmp, pos_total, pos_exact, is_place, IsPlace, places_where, contains-places_where}
use Rattle.fuse_image.specs.Prelude.{bit_in, position_of_bit, AreWords, contains-place_of}
use Rattle.fuse_image.proofs.Sets.{none_in, is_empty-from_none, is_place-from_IsPlace, IsPlace-from_is_place, same_places, none_outside}

-- the positions at which words have ones
abbrev pub positions_of : List ℕ → Positions
positions_of words = places_where (bit_in words)

-- the words by their indices have ones at the positions of the set, which has none outside of 4 blocks
pub record AreBitsOf (word : ℕ → ℕ) (s : Positions) : Type 0 where
  pub bits : (w i : ℕ) → w < 32 → i < 32 → (bit_at (word w) i == 1) ≡ set.contains s (position_of_bit w i)
  pub none : (p : Pos) → is_place p ≡ false → set.contains s p ≡ false

place_again : (p : Pos) → IsPlace p → position_of_bit (8 * p.block + p.bit / 32) (p.bit % 32) ≡ p
place_again p is =
    let block : (8 * p.block + p.bit / 32) / 8 ≡ p.block = omega (arith, is.1) in
    let bit : 32 * ((8 * p.block + p.bit / 32) % 8) + p.bit % 32 ≡ p.bit = omega (arith, is.1) in
    ap₂ (λ (x y : ℕ). let r : Pos = record { block = x; bit = y } in r) block bit

-- the bit of a position
bit_of : (word : ℕ → ℕ) (s : Positions) → AreBitsOf word s → (p : Pos) → IsPlace p
    → (bit_at (word (8 * p.block + p.bit / 32)) (p.bit % 32) == 1) ≡ set.contains s p
bit_of word s are p is =
    are.bits (8 * p.block + p.bit / 32) (p.bit % 32) (omega (arith, is.0, is.1)) (omega arith)
    ∙ ap (set.contains s) (place_again p is)

-- the words of a set have its bits, and words with the bits of a set are its words
pub AreBitsOf-words : (words : List ℕ) → AreBitsOf (λ w. get_or words w 0) (positions_of words)
AreBitsOf-words words = record {
  bits = λ w i low small. sym (contains-place_of words w i low small);
  none = none_outside (bit_in words);
}

pub positions_of-bits : (words : List ℕ) (s : Positions) → AreBitsOf (λ w. get_or words w 0) s → positions_of words ≡ s
positions_of-bits words s are = same_places (bit_in words) s (bit_of (λ w. get_or words w 0) s are) are.none

pub AreBitsOf-same : (f g : ℕ → ℕ) (s : Positions) → ((w : ℕ) → w < 32 → g w ≡ f w) → AreBitsOf f s → AreBitsOf g s
AreBitsOf-same f g s same are = record {
  bits = λ w i low small. ap (λ (word : ℕ). bit_at word i == 1) (same w low) ∙ are.bits w i low small;
  none = are.none;
}

-- one bit of `|`, `&` and `!`
or_bit : (a b : ℕ) → a < 2 → b < 2 → (max a b == 1) ≡ (a == 1 || b == 1)
or_bit zero zero h k = refl
or_bit zero (suc zero) h k = refl
or_bit (suc zero) zero h k = refl
or_bit (suc zero) (suc zero) h k = refl
or_bit (suc (suc a)) b h k = absurd (omega (arith, h))
or_bit a (suc (suc b)) h k = absurd (omega (arith, k))

and_bit : (a b : ℕ) → a < 2 → b < 2 → (min a b == 1) ≡ (a == 1 && b == 1)
and_bit zero zero h k = refl
and_bit zero (suc zero) h k = refl
and_bit (suc zero) zero h k = refl
and_bit (suc zero) (suc zero) h k = refl
and_bit (suc (suc a)) b h k = absurd (omega (arith, h))
and_bit a (suc (suc b)) h k = absurd (omega (arith, k))

not_bit : (b : ℕ) → b < 2 → (1 - b == 1) ≡ not (b == 1)
not_bit zero h = refl
not_bit (suc zero) h = refl
not_bit (suc (suc b)) h = absurd (omega (arith, h))

-- the sets of words that are `|`, `&` and `& !` of those of two sets
pub AreBitsOf-or : (f g : ℕ → ℕ) (s t : Positions) → AreBitsOf f s → AreBitsOf g t → AreBitsOf (λ w. bit_or (f w) (g w)) (set.union s t)
AreBitsOf-or f g s t own other = record {
  bits = λ w i low small.
      ap (λ (b : ℕ). b == 1) (bit_at_or (f w) (g w) i)
      ∙ (or_bit (bit_at (f w) i) (bit_at (g w) i) (bit_at-lt (f w) i) (bit_at-lt (g w) i)
      ∙ (ap₂ (λ (a b : Bool). a || b) (own.bits w i low small) (other.bits w i low small)
      ∙ sym (set.contains-union pos_total s t (position_of_bit w i))));
  none = λ p not_one. set.contains-union pos_total s t p ∙ or_from _ _ (own.none p not_one) (other.none p not_one);
}

pub AreBitsOf-and : (f g : ℕ → ℕ) (s t : Positions) → AreBitsOf f s → AreBitsOf g t → AreBitsOf (λ w. bit_and (f w) (g w)) (set.intersection s t)
AreBitsOf-and f g s t own other = record {
  bits = λ w i low small.
      ap (λ (b : ℕ). b == 1) (bit_at_and (f w) (g w) i)
      ∙ (and_bit (bit_at (f w) i) (bit_at (g w) i) (bit_at-lt (f w) i) (bit_at-lt (g w) i)
      ∙ (ap₂ (λ (a b : Bool). a && b) (own.bits w i low small) (other.bits w i low small)
      ∙ sym (set.contains-intersection pos_total s t (position_of_bit w i))));
  none = λ p not_one. set.contains-intersection pos_total s t p ∙ and_left _ _ (own.none p not_one);
}

pub AreBitsOf-and_not : (f g : ℕ → ℕ) (s t : Positions) → AreBitsOf f s → AreBitsOf g t → ((w : ℕ) → g w < 2 ^ 32) → AreBitsOf (λ w.
    bit_and (f w) (bit_not w32 (g w))) (set.difference s t)
AreBitsOf-and_not f g s t own other small_words = record {
  bits = λ w i low small.
      ap (λ (b : ℕ). b == 1) (bit_at_and (f w) (bit_not w32 (g w)) i)
      ∙ (and_bit (bit_at (f w) i) (bit_at (bit_not w32 (g w)) i) (bit_at-lt (f w) i) (bit_at-lt (bit_not w32 (g w)) i)
      ∙ (ap₂ (λ (a b : Bool). a && b) (own.bits w i low small) (
      ap (λ (b : ℕ). b == 1) (bit_at_not w32 (g w) i (small_words w) small)
      ∙ (not_bit (bit_at (g w) i) (bit_at-lt (g w) i) ∙ ap not (other.bits w i low small)))
      ∙ sym (set.contains-difference pos_total s t (position_of_bit w i))));
  none = λ p not_one. set.contains-difference pos_total s t p ∙ and_left _ _ (own.none p not_one);
}

-- no ones
pub AreBitsOf-zeros : AreBitsOf (λ _. 0) set.empty
AreBitsOf-zeros = record {
  bits = λ w i low small. ap (λ (b : ℕ). b == 1) (bit_at-zero i) ∙ sym (set.contains-empty pos_cmp (position_of_bit w i));
  none = λ p _. set.contains-empty pos_cmp p;
}

-- each of some zeros
pub zeros_at : (n w : ℕ) → get_or {A = ℕ} (replicate n 0) w 0 ≡ 0
zeros_at zero w = refl
zeros_at (suc n) zero = refl
zeros_at (suc n) (suc w) = zeros_at n w

pub AreWords-zeros : AreWords (replicate 32 0)
AreWords-zeros = record { count = refl; small = λ w. omega (arith, zeros_at 32 w) }

pub positions_of-zeros : positions_of (replicate 32 0) ≡ set.empty
positions_of-zeros =
    positions_of-bits (replicate 32 0) set.empty (AreBitsOf-same (λ _. 0) (λ w. get_or (replicate 32 0) w 0) set.empty (λ w low. zeros_at 32 w) AreBitsOf-zeros)

-- a set is empty where all its words are zeros
no_bit : (b : ℕ) → b < 2 → (b == 1) ≡ false → b ≡ 0
no_bit zero h e = refl
no_bit (suc zero) h e = absurd (true≢false e)
no_bit (suc (suc b)) h e = absurd (omega (arith, h))

pub is_empty-zeros : (word : ℕ → ℕ) (s : Positions) → AreBitsOf word s → ((w : ℕ) → word w < 2 ^ 32) → (are_zeros : Bool)
    → ((are_zeros ≡ true) ↔ ((w : ℕ) → w < 32 → word w ≡ 0)) → are_zeros ≡ is_empty s
is_empty-zeros word s are small_words are_zeros each = one_truth are_zeros (is_empty s)
    (λ is. is_empty-from_none s (λ p. elim (cases_Bool (is_place p)) as (λ _. set.contains s p ≡ false) [
      | inl here ↦
          let place : IsPlace p = IsPlace-from_is_place p here in
          sym (bit_of word s are p place)
          ∙ (ap (λ (w : ℕ). bit_at w (p.bit % 32) == 1) (each.0 is (8 * p.block + p.bit / 32) (omega (arith, place.0, place.1)))
          ∙ ap (λ (b : ℕ). b == 1) (bit_at-zero (p.bit % 32)))
      | inr not_one ↦ are.none p not_one
    ]))
    (λ empty. each.1 (λ w low. same_from_bits_below 32 (word w) 0 (small_words w) (omega arith) (λ i small.
    no_bit (bit_at (word w) i) (bit_at-lt (word w) i) (are.bits w i low small ∙ none_in s empty (position_of_bit w i)) ∙ sym (bit_at-zero i))))

-- a set of words has positions of the four blocks alone
pub is_place-of_words : (words : List ℕ) (p : Pos) → set.contains (positions_of words) p ≡ true → is_place p ≡ true
is_place-of_words words p has = (and_parts (is_place p) (bit_in words p) (sym (contains-places_where (bit_in words) p) ∙ has)).0

-- what the operations on words do to their sets
pub positions_of-both : (own other words : List ℕ) → ((w : ℕ) → w < 32 → get_or words w 0 ≡ bit_or (get_or own w 0) (get_or other w 0))
    → positions_of words ≡ set.union (positions_of own) (positions_of other)
positions_of-both own other words each =
    let s = set.union (positions_of own) (positions_of other) in
    positions_of-bits words s (AreBitsOf-same _ (λ w. get_or words w 0) s each
    (AreBitsOf-or (λ w. get_or own w 0) (λ w. get_or other w 0) _ _ (AreBitsOf-words own) (AreBitsOf-words other)))

pub positions_of-shared : (own other words : List ℕ) → ((w : ℕ) → w < 32 → get_or words w 0 ≡ bit_and (get_or own w 0) (get_or other w 0))
    → positions_of words ≡ set.intersection (positions_of own) (positions_of other)
positions_of-shared own other words each =
    let s = set.intersection (positions_of own) (positions_of other) in
    positions_of-bits words s (AreBitsOf-same _ (λ w. get_or words w 0) s each
    (AreBitsOf-and (λ w. get_or own w 0) (λ w. get_or other w 0) _ _ (AreBitsOf-words own) (AreBitsOf-words other)))

pub positions_of-without : (own other words : List ℕ) → AreWords other
    → ((w : ℕ) → w < 32 → get_or words w 0 ≡ bit_and (get_or own w 0) (bit_not w32 (get_or other w 0)))
    → positions_of words ≡ set.difference (positions_of own) (positions_of other)
positions_of-without own other words are each =
    let s = set.difference (positions_of own) (positions_of other) in
    positions_of-bits words s (AreBitsOf-same _ (λ w. get_or words w 0) s each
    (AreBitsOf-and_not (λ w. get_or own w 0) (λ w. get_or other w 0) _ _ (AreBitsOf-words own) (AreBitsOf-words other) are.small))

-- one bit
pub contains-shifted : (words : List ℕ) (p : Pos) (index : ℕ) → index ≡ 8 * p.block + p.bit / 32 → IsPlace p
    → (bit_and (get_or words index 0 / 2 ^ (p.bit % 32)) 1 == 1) ≡ set.contains (positions_of words) p
contains-shifted words p index is place =
    ap (λ (b : ℕ). b == 1) (shr_and_one (get_or words index 0) (p.bit % 32) ∙ ap (λ (w : ℕ). bit_at (get_or words w 0) (p.bit % 32)) is)
    ∙ bit_of (λ w. get_or words w 0) (positions_of words) (AreBitsOf-words words) p place

-- one position more
same_place : (p : Pos) (w i : ℕ) → IsPlace p → i < 32 → eq_by_cmp pos_cmp (position_of_bit w i) p ≡ (w == 8 * p.block + p.bit / 32 && i == p.bit % 32)
same_place p w i place small = one_truth _ _
    (λ h.
    let same : position_of_bit w i ≡ p = pos_exact (position_of_bit w i) p ((Equal-is (pos_cmp (position_of_bit w i) p)).0 h) in
    let block : w / 8 ≡ p.block = ap (λ (q : Pos). q.block) same in
    let bit : 32 * (w % 8) + i ≡ p.bit = ap (λ (q : Pos). q.bit) same in
    and_from _ _ (eq-eqb w (8 * p.block + p.bit / 32) (omega (arith, block, bit, small))) (eq-eqb i (p.bit % 32) (omega (arith, bit, small))))
    (λ h.
    let parts = and_parts (w == 8 * p.block + p.bit / 32) (i == p.bit % 32) h in
    let word = eqb-true w (8 * p.block + p.bit / 32) parts.0 in
    let bit = eqb-true i (p.bit % 32) parts.1 in
    let same : position_of_bit w i ≡ p = ap₂ position_of_bit word bit ∙ place_again p place in
    ap (λ (q : Pos). eq_by_cmp pos_cmp q p) same ∙ ap is_eq (tied_itself pos_total p))

pub positions_of-insert : (words : List ℕ) (p : Pos) (index : ℕ) → index ≡ 8 * p.block + p.bit / 32 → IsPlace p → length words ≡ 32
    → positions_of (list_set words index (bit_or (get_or words index 0) (1 * 2 ^ (p.bit % 32) % 2 ^ 32))) ≡ set.insert (positions_of words) p
positions_of-insert words p index is place count =
    let bit = p.bit % 32 in
    let within : bit < 32 = omega arith in
    let low : index < length words = omega (arith, is, place.0, place.1, count) in
    let one = bit_or (get_or words index 0) (1 * 2 ^ bit % 2 ^ 32) in
    positions_of-bits (list_set words index one) (set.insert (positions_of words) p) (record {
      bits = λ w i low_index small.
          (elim (cases_eq w index) as (λ _. (bit_at (get_or (list_set words index one) w 0) i == 1)
          ≡ ((w == 8 * p.block + p.bit / 32 && i == p.bit % 32) || bit_at (get_or words w 0) i == 1)) [
            | inl here ↦
                elim (cases_eq i bit) as (λ _. (bit_at (get_or (list_set words index one) w 0) i == 1)
                ≡ ((w == 8 * p.block + p.bit / 32 && i == p.bit % 32) || bit_at (get_or words w 0) i == 1)) [
                  | inl same ↦
                      ap (λ (x : ℕ). bit_at x i == 1) (get_or-set_at words index w one 0 here low)
                      ∙ (ap (λ (j : ℕ). bit_at one j == 1) same ∙ (ap (λ (b : ℕ). b == 1) (bit_at_set_same w32 (get_or words index 0) bit within)
                      ∙ sym (or_left _ _ (and_from _ _ (eq-eqb w _ (here ∙ is)) (eq-eqb i bit same)))))
                  | inr other ↦
                      ap (λ (x : ℕ). bit_at x i == 1) (get_or-set_at words index w one 0 here low)
                      ∙ (ap (λ (b : ℕ). b == 1) (bit_at_set_other w32 (get_or words index 0) bit within i other)
                      ∙ (ap (λ (j : ℕ). bit_at (get_or words j 0) i == 1) (sym here)
                      ∙ ap (λ (b : Bool). b || bit_at (get_or words w 0) i == 1)
                      (sym (and_right (w == 8 * p.block + p.bit / 32) (i == bit) (ne_eqb i bit other)))))
                ]
            | inr elsewhere ↦
                ap (λ (x : ℕ). bit_at x i == 1) (get_or-set_other words index w one 0 elsewhere)
                ∙ ap (λ (b : Bool). b || bit_at (get_or words w 0) i == 1)
                (sym (and_left (w == 8 * p.block + p.bit / 32) (i == bit) (ne_eqb w _ (λ e. elsewhere (e ∙ sym is)))))
          ])
          ∙ (ap₂ (λ (a b : Bool). a || b) (sym (same_place p w i place small)) (sym (contains-place_of words w i low_index small))
          ∙ sym (set.contains-insert pos_total (positions_of words) p (position_of_bit w i)));
      none = λ q not_one.
          set.contains-insert pos_total (positions_of words) p q
          ∙ or_from _ _ (false_from_ne_true (eq_by_cmp pos_cmp q p) (λ h.
          let same : q ≡ p = pos_exact q p ((Equal-is (pos_cmp q p)).0 h) in
          true≢false (sym (is_place-from_IsPlace p place) ∙ (ap is_place (sym same) ∙ not_one))))
          (none_outside (bit_in words) q not_one);
    })
