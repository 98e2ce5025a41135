-- The number of hexadecimal digits, and its words of eight digits each.
use Rattle.std.proofs.Common.{◌≡◌, ◌+◌, ◌-◌, ◌*◌, ◌/◌, ◌%◌, ◌^◌, ◌<◌, ◌≤◌, ◌&&◌, ◌∷◌, ◌++◌, get_or, if◌then◌else◌}
use Rattle.text_core.proofs.Kit.{ℕ, zero, suc, Bool, true, false, List, [], length, take, drop, replicate, refl, sym, ap, ap₂, subst, ◌∙◌, append-nil, arith}
use Rattle.text_core.proofs.Kit.{length-append, nat_le, unwrap_or, fold, Some, None, slice_range, and_parts, leb-true, append_assoc, drop-replicate}
use Rattle.text_core.proofs.Kit.{length-drop, length-replicate, length-take-le, take-append-drop, take-replicate, drop_split, fold-append, fold_more}
use Rattle.text_core.proofs.Kit.{pow-le-pow_right, mul-add-lt, mod_low, pow-add, shr_high}
use borrow.Rule.Slice.PartMut.{put_mid}
use Rattle.text_core.specs.Prelude.{zero_padded}
use Rattle.fuse_plan.specs.Prelude.{digit_value, digits_value, number_word}

-- one digit more
abbrev pub step : ℕ → ℕ → ℕ
step value digit = 16 * value + digit_value digit

-- how many numbers so many digits have
abbrev pub reach : ℕ → ℕ
reach count = 2 ^ (4 * count)

reach-suc : (count : ℕ) → reach (suc count) ≡ 16 * reach count
reach-suc count = let more : 4 * suc count ≡ 4 + 4 * count = omega arith in ap (λ (k : ℕ). 2 ^ k) more ∙ pow-add 2 4 (4 * count)

-- a digit stands for less than 16
one_of_three : (a b c : Bool) (x y z : ℕ) → (a ≡ true → x < 16) → (b ≡ true → y < 16) → (c ≡ true → z < 16)
    → unwrap_or (if a then Some x else if b then Some y else if c then Some z else None) 0 < 16
one_of_three true b c x y z f g h = f refl
one_of_three false true c x y z f g h = g refl
one_of_three false false true x y z f g h = h refl
one_of_three false false false x y z f g h = omega arith

within : (low high digit : ℕ) → (nat_le low digit && nat_le digit high) ≡ true → (low ≤ digit) × (digit ≤ high)
within low high digit h = let parts = and_parts _ _ h in (leb-true low digit parts.0, leb-true digit high parts.1)

pub digit_value-small : (digit : ℕ) → digit_value digit < 16
digit_value-small digit = one_of_three _ _ _ _ _ _
    (λ h. let w = within 65 70 digit h in omega (arith, w.0, w.1))
    (λ h. let w = within 97 102 digit h in omega (arith, w.0, w.1))
    (λ h. let w = within 48 57 digit h in omega (arith, w.0, w.1))

-- digits after a number
shifted : (value digit r : ℕ) → (16 * value + digit) * r ≡ value * (16 * r) + (16 * 0 + digit) * r
shifted value digit r = omega arith

from : (value : ℕ) (digits : List ℕ) → fold step value digits ≡ value * reach (length digits) + fold step 0 digits
from value [] = omega arith
from value (d ∷ ds) =
    let r = reach (length ds) in
    from (step value d) ds
    ∙ (ap (λ (n : ℕ). n + fold step 0 ds) (shifted value (digit_value d) r
    ∙ ap (λ (n : ℕ). value * n + (16 * 0 + digit_value d) * r) (sym (reach-suc (length ds))))
    ∙ let later = from (step 0 d) ds in omega (arith, later))

-- what digits make is below their reach
pub below : (digits : List ℕ) → fold step 0 digits < reach (length digits)
below [] = omega arith
below (d ∷ ds) =
    let first = mul-add-lt (digit_value d) (reach (length ds)) (fold step 0 ds) 16 (digit_value-small d) (below ds) in
    let later = from (step 0 d) ds in
    let more = reach-suc (length ds) in
    omega (arith, first, later, more)

-- the digits before a run of digits, and the run
together : (high low : List ℕ) → fold step 0 (high ++ low) ≡ fold step 0 high * reach (length low) + fold step 0 low
together high low = fold-append step 0 high low ∙ from (fold step 0 high) low

-- zeros before the digits change nothing
zeros_before : (count : ℕ) (digits : List ℕ) → fold step 0 (replicate count 48 ++ digits) ≡ fold step 0 digits
zeros_before zero digits = refl
zeros_before (suc count) digits = zeros_before count digits

pub digits_value-padded : (digits : List ℕ) → digits_value (zero_padded 64 digits) ≡ digits_value digits
unfolding digits_value
digits_value-padded digits = zeros_before (64 - length digits) digits

pub length-padded : (digits : List ℕ) → length digits ≤ 64 → length (zero_padded 64 digits) ≡ 64
length-padded digits low =
    length-append (replicate (64 - length digits) 48) digits
    ∙ (ap (λ (n : ℕ). n + length digits) (length-replicate (64 - length digits) 48) ∙ omega (arith, low))

-- digits put behind so many zeros
behind : (at : ℕ) (digits put : List ℕ) → at ≤ 64 → put ≡ digits → put_mid at (64 - at) (replicate 64 48) put ≡ replicate at 48 ++ digits
behind at digits put low e =
    let none : 64 - at - (64 - at) ≡ 0 = omega arith in
    let after : drop (64 - at) (drop at (replicate 64 48)) ≡ [] =
    ap (drop (64 - at)) (drop-replicate at 64 48) ∙ (drop-replicate (64 - at) (64 - at) 48 ∙ ap (λ (n : ℕ). replicate n 48) none) in
    ap₂ (λ (xs ys : List ℕ). xs ++ (put ++ ys)) (take-replicate at 64 48 low) after ∙ ap (λ (ys : List ℕ). replicate at 48 ++ ys) (append-nil put ∙ e)

pub put_behind : (digits put : List ℕ) → put ≡ digits → put_mid (64 - length digits) (64 - (64 - length digits)) (replicate 64 48) put ≡ zero_padded 64 digits
put_behind digits put e = behind (64 - length digits) digits put (omega arith) e

-- one digit more of at most eight, and it fits 32 bits
pub digits_value-more : (digits : List ℕ) (i d : ℕ) → i < length digits
    → 16 * digits_value (take i digits) + digit_value (get_or digits i d) ≡ digits_value (take (i + 1) digits)
unfolding digits_value
digits_value-more digits i d low = sym (fold_more step 0 digits i d low)

pub fits-more : (digits : List ℕ) (i digit : ℕ) → i < length digits → length digits ≤ 8 → 16 * digits_value (take i digits) + digit_value digit < 2 ^ 32
unfolding digits_value
fits-more digits i digit low few =
    let count : length (take i digits) ≡ i = length-take-le i digits (omega (arith, low)) in
    let under = below (take i digits) in
    let two : 0 < 2 = omega arith in
    let least : 4 * length (take i digits) ≤ 28 = omega (arith, count, low, few) in
    let most : reach (length (take i digits)) ≤ 2 ^ 28 = pow-le-pow_right two least in
    let small = digit_value-small digit in
    omega (arith, under, most, small)

-- a word is the number of eight digits
pub word-is : (digits : List ℕ) (i : ℕ) → length digits ≡ 64 → i < 8
    → digits_value (slice_range digits (64 - 8 * i - 8) (64 - 8 * i)) ≡ number_word (digits_value digits) i
unfolding digits_value number_word
word-is digits i whole low =
    let end = 64 - 8 * i in
    let at = end - 8 in
    let mid = slice_range digits at end in
    let high = fold step 0 (take at digits) in
    let rest = drop end digits in
    let parts : digits ≡ (take at digits ++ mid) ++ rest =
    sym (take-append-drop at digits) ∙ (ap (λ (ys : List ℕ). take at digits ++ ys) (drop_split digits at end (omega arith))
    ∙ sym (append_assoc (take at digits) mid rest)) in
    let rest_count : length rest ≡ 8 * i = length-drop end digits ∙ omega (arith, whole, low) in
    let mid_count : length mid ≡ 8 = length-take-le (end - at) (drop at digits) (omega (arith, length-drop at digits, whole, low)) ∙ omega (arith, low) in
    let rest_reach : reach (length rest) ≡ 2 ^ (32 * i) = let same : 4 * length rest ≡ 32 * i = omega (arith, rest_count) in ap (λ (k : ℕ). 2 ^ k) same in
    let mid_reach : reach (length mid) ≡ 2 ^ 32 = ap reach mid_count in
    let value : fold step 0 digits ≡ (high * 2 ^ 32 + fold step 0 mid) * 2 ^ (32 * i) + fold step 0 rest =
    ap (fold step 0) parts ∙ (together (take at digits ++ mid) rest
    ∙ ap₂ (λ (n r : ℕ). n * r + fold step 0 rest) (together (take at digits) mid ∙ ap (λ (r : ℕ). high * r + fold step 0 mid) mid_reach) rest_reach) in
    sym (ap (λ (n : ℕ). n / 2 ^ (32 * i) % 2 ^ 32) value
    ∙ (ap (λ (n : ℕ). n % 2 ^ 32) (shr_high (high * 2 ^ 32 + fold step 0 mid) (32 * i) (fold step 0 rest)
    (subst (λ (r : ℕ). fold step 0 rest < r) rest_reach (below rest)))
    ∙ mod_low high 32 (fold step 0 mid) (subst (λ (r : ℕ). fold step 0 mid < r) mid_reach (below mid))))
