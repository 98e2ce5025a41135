-- Words and their four bytes, the lowest first, by their bits.
use Rattle.std.proofs.Common.{◌≡◌, ◌+◌, ◌-◌, ◌*◌, ◌/◌, ◌%◌, ◌^◌, ◌<◌, ◌∷◌, ◌==◌, if◌then◌else◌}
use Rattle.text_core.proofs.Kit.{ℕ, zero, suc, Bool, true, false, List, [], refl, sym, ap, ap₂, ◌∙◌, inl, inr, arith, slice_index, bit_at, to_le_bytes}
use Rattle.text_core.proofs.Kit.{from_le_bytes, w32, cases_lt, cases_order, pow-add, bit_at_cat_low, bit_at_cat_high}
use Rattle.fuse_image.specs.Prelude.{number_with}
use Rattle.fuse_columns.proofs.Numbers.{number_with-lt}

-- a bit of a number is 1 where the test passes
bit_of_sum : (test : Bool) (n rest : ℕ) → rest < 2 ^ n → bit_at (rest + (if test then 2 ^ n else 0)) n ≡ (if test then 1 else 0)
bit_of_sum true n rest low =
    let cat : rest + 2 ^ n ≡ 1 * 2 ^ n + rest = omega arith in
    let none : n - n ≡ 0 = omega arith in
    ap (λ k. bit_at k n) cat ∙ (bit_at_cat_high 1 n rest n low (omega arith) ∙ ap (bit_at 1) none)
bit_of_sum false n rest low =
    let cat : rest + 0 ≡ 0 * 2 ^ n + rest = omega arith in
    let none : n - n ≡ 0 = omega arith in
    ap (λ k. bit_at k n) cat ∙ (bit_at_cat_high 0 n rest n low (omega arith) ∙ ap (bit_at 0) none)

lower_bit : (test : Bool) (n rest i : ℕ) → i < n → bit_at (rest + (if test then 2 ^ n else 0)) i ≡ bit_at rest i
lower_bit true n rest i low =
    let cat : rest + 2 ^ n ≡ 1 * 2 ^ n + rest = omega arith in
    ap (λ k. bit_at k i) cat ∙ bit_at_cat_low 1 n rest i low
lower_bit false n rest i low = let same : rest + 0 ≡ rest = omega arith in ap (λ k. bit_at k i) same

bit_of_number : (f : ℕ → Bool) (n i : ℕ) → i < n → bit_at (number_with f n) i ≡ (if f i then 1 else 0)
unfolding number_with
bit_of_number f zero i low = absurd (omega (arith, low))
bit_of_number f (suc n) i low = elim (cases_order i n) as (λ _. bit_at (number_with f (suc n)) i ≡ (if f i then 1 else 0)) [
  | inl e ↦ ap (bit_at (number_with f (suc n))) e ∙ (bit_of_sum (f n) n (number_with f n) (number_with-lt f n) ∙ ap (λ k. if f k then 1 else 0) (sym e))
  | inr (inl lower) ↦ lower_bit (f n) n (number_with f n) i lower ∙ bit_of_number f n i lower
  | inr (inr above) ↦ absurd (omega (arith, low, above))
]

is_one : (b : Bool) → ((if b then 1 else 0) == 1) ≡ b
is_one true = refl
is_one false = refl

pub number_reads : (f : ℕ → Bool) (n i : ℕ) → i < n → (bit_at (number_with f n) i == 1) ≡ f i
number_reads f n i low = ap (λ k. k == 1) (bit_of_number f n i low) ∙ is_one (f i)

-- a number by its lowest byte and the rest
shifted : (b : Bool) (n : ℕ) → (if b then 2 ^ (8 + n) else 0) ≡ 256 * (if b then 2 ^ n else 0)
shifted true n = pow-add 2 8 n
shifted false n = refl

no_bit_more : (f : ℕ → Bool) → number_with f 8 ≡ number_with f 8 + 256 * number_with (λ i. f (8 + i)) 0
unfolding number_with
no_bit_more f = omega arith

one_bit_more : (f : ℕ → Bool) (n : ℕ) → number_with f (suc n) ≡ number_with f n + (if f n then 2 ^ n else 0)
unfolding number_with
one_bit_more f n = refl

gathered : (a b c : ℕ) → a + 256 * b + 256 * c ≡ a + 256 * (b + c)
gathered a b c = omega arith

pub number_split : (f : ℕ → Bool) (n : ℕ) → number_with f (8 + n) ≡ number_with f 8 + 256 * number_with (λ i. f (8 + i)) n
number_split f zero = no_bit_more f
number_split f (suc n) =
    let next : 8 + suc n ≡ suc (8 + n) = omega arith in
    ap (number_with f) next ∙ (one_bit_more f (8 + n) ∙ (ap₂ (λ (a b : ℕ). a + b) (number_split f n) (shifted (f (8 + n)) n)
    ∙ (gathered (number_with f 8) (number_with (λ i. f (8 + i)) n) (if f (8 + n) then 2 ^ n else 0)
    ∙ ap (λ k. number_with f 8 + 256 * k) (sym (one_bit_more (λ i. f (8 + i)) n)))))

-- the bytes of a number of 32 bits
pub bytes_of_number : (f : ℕ → Bool)
    → to_le_bytes w32 (number_with f 32) ≡ number_with f 8 ∷ number_with (λ i. f (8 + i)) 8 ∷ number_with (λ i. f (8 + (8 + i))) 8 ∷ number_with (λ i.
    f (8 + (8 + (8 + i)))) 8 ∷ []
bytes_of_number f =
    let n0 : ℕ = number_with f 8 in
    let n1 : ℕ = number_with (λ i. f (8 + i)) 8 in
    let n2 : ℕ = number_with (λ i. f (8 + (8 + i))) 8 in
    let n3 : ℕ = number_with (λ i. f (8 + (8 + (8 + i)))) 8 in
    let s0 : number_with f 32 ≡ n0 + 256 * number_with (λ i. f (8 + i)) 24 = number_split f 24 in
    let s1 : number_with (λ i. f (8 + i)) 24 ≡ n1 + 256 * number_with (λ i. f (8 + (8 + i))) 16 = number_split (λ i. f (8 + i)) 16 in
    let s2 : number_with (λ i. f (8 + (8 + i))) 16 ≡ n2 + 256 * n3 = number_split (λ i. f (8 + (8 + i))) 8 in
    let l0 : n0 < 256 = number_with-lt f 8 in
    let l1 : n1 < 256 = number_with-lt (λ i. f (8 + i)) 8 in
    let l2 : n2 < 256 = number_with-lt (λ i. f (8 + (8 + i))) 8 in
    let l3 : n3 < 256 = number_with-lt (λ i. f (8 + (8 + (8 + i)))) 8 in
    four_bytes (number_with f 32) n0 n1 n2 n3 l0 l1 l2 l3 (s0 ∙ ap (λ k. n0 + 256 * k) (s1 ∙ ap (λ k. n1 + 256 * k) s2))
  where
    four_bytes : (n a b c d : ℕ) → a < 256 → b < 256 → c < 256 → d < 256 → n ≡ a + 256 * (b + 256 * (c + 256 * d)) → to_le_bytes w32 n ≡ a ∷ b ∷ c ∷ d ∷ []
    four_bytes n a b c d la lb lc ld e =
        let e0 : n % 256 ≡ a = omega (arith, e, la) in
        let e1 : n / 256 % 256 ≡ b = omega (arith, e, la, lb) in
        let e2 : n / 65536 % 256 ≡ c = omega (arith, e, la, lb, lc) in
        let e3 : n / 16777216 % 256 ≡ d = omega (arith, e, la, lb, lc, ld) in
        λ i. e0 i ∷ e1 i ∷ e2 i ∷ e3 i ∷ []

-- a bit of a word of four bytes
pub bit_of_bytes : (a b c d j : ℕ) → a < 256 → b < 256 → c < 256 → j < 32
    → bit_at (from_le_bytes w32 (a ∷ b ∷ c ∷ d ∷ [])) j ≡ bit_at (slice_index (a ∷ b ∷ c ∷ d ∷ []) (j / 8)) (j % 8)
bit_of_bytes a b c d j la lb lc low =
    let n1 : ℕ = d * 2 ^ 8 + c in
    let n2 : ℕ = n1 * 2 ^ 8 + b in
    let whole : from_le_bytes w32 (a ∷ b ∷ c ∷ d ∷ []) ≡ n2 * 2 ^ 8 + a = omega arith in
    let bytes : List ℕ = a ∷ b ∷ c ∷ d ∷ [] in
    let place : (q r : ℕ) → j / 8 ≡ q → j % 8 ≡ r → bit_at (slice_index bytes q) r ≡ bit_at (slice_index bytes (j / 8)) (j % 8) =
    λ q r e f. ap₂ (λ (x y : ℕ). bit_at (slice_index bytes x) y) (sym e) (sym f) in
    ap (λ k. bit_at k j) whole ∙ elim (cases_lt j 8) as (λ _. bit_at (n2 * 2 ^ 8 + a) j ≡ bit_at (slice_index bytes (j / 8)) (j % 8)) [
      | inl in0 ↦ bit_at_cat_low n2 8 a j in0 ∙ place 0 j (omega (arith, in0)) (omega (arith, in0))
      | inr past0 ↦ bit_at_cat_high n2 8 a j la past0 ∙ elim (cases_lt j 16) as (λ _. bit_at n2 (j - 8) ≡ bit_at (slice_index bytes (j / 8)) (j % 8)) [
        | inl in1 ↦ bit_at_cat_low n1 8 b (j - 8) (omega (arith, in1, past0)) ∙ place 1 (j - 8) (omega (arith, in1, past0)) (omega (arith, in1, past0))
        | inr past1 ↦
            bit_at_cat_high n1 8 b (j - 8) lb (omega (arith, past1)) ∙ elim (cases_lt j 24) as (λ _.
            bit_at n1 (j - 8 - 8) ≡ bit_at (slice_index bytes (j / 8)) (j % 8)) [
              | inl in2 ↦
                  bit_at_cat_low d 8 c (j - 8 - 8) (omega (arith, in2, past1)) ∙ place 2 (j - 8 - 8) (omega (arith, in2, past1)) (omega (arith, in2, past1))
              | inr past2 ↦
                  bit_at_cat_high d 8 c (j - 8 - 8) lc (omega (arith, past2)) ∙ place 3 (j - 8 - 8 - 8) (omega (arith, low, past2)) (omega (arith, low, past2))
            ]
      ]
    ]
