-- Masks: words with ones from one place up to another.
use Rattle.std.proofs.Common.{◌≡◌, ◌+◌, ◌-◌, ◌*◌, ◌/◌, ◌^◌, ◌<◌, ◌≤◌, ◌&&◌, get_or, ◌==◌}
use Rattle.text_core.proofs.Kit.{ℕ, min, Bool, List, bit_or, nat_le, nat_lt, sym, ap, ◌∙◌, inl, inr, arith, bit_at, and_parts, and_from, and_left, and_right}
use Rattle.text_core.proofs.Kit.{ltb-true, lt-ltb, le-ltb, leb-true, le-leb, lt-leb, eq-eqb, eqb-true, cases_lt, bit_at_mask_inside, bit_at_mask_below}
use Rattle.text_core.proofs.Kit.{bit_at_mask_above, pow_mono, one_truth}
use Rattle.std.specs.FinSet as set
use Rattle.fusemap_core.specs.declared.pos.Pos.{Pos}
use Rattle.fuse_image.specs.Prelude.{mask_of, run, position_of_bit}
use Rattle.fuse_image.proofs.BitSets.{AreBitsOf, AreBitsOf-words, AreBitsOf-same, AreBitsOf-or, positions_of, positions_of-bits}
use Rattle.fuse_image.proofs.Sets.{places_where-at, none_outside}

-- a word that lies before the first place, or after the last, is zero
pub mask_of-before : (start end w : ℕ) → 32 * w + 32 ≤ start → mask_of start end w ≡ 0
mask_of-before start end w before =
    let low : min (start - 32 * w) 32 ≡ 32 = omega (arith, before) in
    let high : min (end - 32 * w) 32 ≤ 32 = omega arith in
    ap (λ (n : ℕ). 2 ^ (min (end - 32 * w) 32) - 2 ^ n) low ∙ omega (arith, pow_mono high)

pub mask_of-after : (start end w : ℕ) → end ≤ 32 * w → mask_of start end w ≡ 0
mask_of-after start end w after =
    let high : min (end - 32 * w) 32 ≡ 0 = omega (arith, after) in
    let low : 0 ≤ min (start - 32 * w) 32 = omega arith in
    ap (λ (n : ℕ). 2 ^ n - 2 ^ (min (start - 32 * w) 32)) high ∙ omega (arith, pow_mono low)

-- the ones of a mask
pub bit_at-mask_of : (start end w i : ℕ) → i < 32 → (bit_at (mask_of start end w) i == 1) ≡ (nat_le start (32 * w + i) && nat_lt (32 * w + i) end)
bit_at-mask_of start end w i small =
    let low = min (start - 32 * w) 32 in
    let high = min (end - 32 * w) 32 in
    elim (cases_lt i low) as (λ _. (bit_at (2 ^ high - 2 ^ low) i == 1) ≡ (nat_le start (32 * w + i) && nat_lt (32 * w + i) end)) [
      | inl below ↦
          ap (λ (b : ℕ). b == 1) (bit_at_mask_below low high i below)
          ∙ sym (and_left (nat_le start (32 * w + i)) (nat_lt (32 * w + i) end) (lt-leb start (32 * w + i) (omega (arith, below))))
      | inr from ↦ elim (cases_lt i high) as (λ _. (bit_at (2 ^ high - 2 ^ low) i == 1) ≡ (nat_le start (32 * w + i) && nat_lt (32 * w + i) end)) [
        | inl inside ↦
            ap (λ (b : ℕ). b == 1) (bit_at_mask_inside low high i from inside)
            ∙ sym (and_from (nat_le start (32 * w + i)) (nat_lt (32 * w + i) end) (le-leb start (32 * w + i) (omega (arith, from, small)))
            (lt-ltb (32 * w + i) end (omega (arith, inside))))
        | inr above ↦
            ap (λ (b : ℕ). b == 1) (bit_at_mask_above low high i above)
            ∙ sym (and_right (nat_le start (32 * w + i)) (nat_lt (32 * w + i) end) (le-ltb (32 * w + i) end (omega (arith, above, small))))
      ]
    ]

-- the places of a run of bits in one block
abbrev in_run : Pos → ℕ → Pos → Bool
in_run first count p = first.block == p.block && (nat_le first.bit p.bit && nat_lt p.bit (first.bit + count))

run_places : (first : Pos) (count w i : ℕ) → first.bit + count ≤ 256 → i < 32
    → (nat_le (256 * first.block + first.bit) (32 * w + i)
    && nat_lt (32 * w + i) (256 * first.block + first.bit + count))
    ≡ in_run first count (position_of_bit w i)
run_places first count w i fits small =
    let start = 256 * first.block + first.bit in
    let place = position_of_bit w i in
    one_truth (nat_le start (32 * w + i) && nat_lt (32 * w + i) (start + count)) (in_run first count place)
    (λ h.
    let ends = and_parts (nat_le start (32 * w + i)) (nat_lt (32 * w + i) (start + count)) h in
    let low = leb-true start (32 * w + i) ends.0 in
    let high = ltb-true (32 * w + i) (start + count) ends.1 in
    let block : first.block ≡ w / 8 = omega (arith, low, high, fits, small) in
    and_from (first.block == place.block) (nat_le first.bit place.bit && nat_lt place.bit (first.bit + count)) (eq-eqb first.block place.block block)
    (and_from (nat_le first.bit place.bit) (nat_lt place.bit (first.bit + count)) (le-leb first.bit place.bit (omega (arith, low, block)))
    (lt-ltb place.bit (first.bit + count) (omega (arith, high, block)))))
    (λ h.
    let parts = and_parts (first.block == place.block) (nat_le first.bit place.bit && nat_lt place.bit (first.bit + count)) h in
    let ends = and_parts (nat_le first.bit place.bit) (nat_lt place.bit (first.bit + count)) parts.1 in
    let block = eqb-true first.block place.block parts.0 in
    let low = leb-true first.bit place.bit ends.0 in
    let high = ltb-true place.bit (first.bit + count) ends.1 in
    and_from (nat_le start (32 * w + i)) (nat_lt (32 * w + i) (start + count)) (le-leb start (32 * w + i) (omega (arith, low, block)))
    (lt-ltb (32 * w + i) (start + count) (omega (arith, high, block))))

-- words with a run too
AreBitsOf-run : (first : Pos) (count : ℕ) → first.bit + count ≤ 256
    → AreBitsOf (mask_of (256 * first.block + first.bit) (256 * first.block + first.bit + count)) (run first count)
AreBitsOf-run first count fits = record {
  bits = λ w i low small.
      bit_at-mask_of (256 * first.block + first.bit) (256 * first.block + first.bit + count) w i small
      ∙ (run_places first count w i fits small ∙ sym (places_where-at (in_run first count) (position_of_bit w i) (omega (arith, low), omega (arith, small))));
  none = none_outside (in_run first count);
}

pub positions_of-run : (own words : List ℕ) (first : Pos) (count : ℕ) → first.bit + count ≤ 256
    → ((w : ℕ) → w < 32 → get_or words w 0 ≡ bit_or (get_or own w 0) (mask_of (256 * first.block + first.bit) (256 * first.block + first.bit + count) w))
    → positions_of words ≡ set.union (positions_of own) (run first count)
positions_of-run own words first count fits each =
    let mask = mask_of (256 * first.block + first.bit) (256 * first.block + first.bit + count) in
    let s = set.union (positions_of own) (run first count) in
    positions_of-bits words s (AreBitsOf-same _ (λ w. get_or words w 0) s each
    (AreBitsOf-or (λ w. get_or own w 0) mask (positions_of own) (run first count) (AreBitsOf-words own) (AreBitsOf-run first count fits)))
