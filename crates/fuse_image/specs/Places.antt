-- Positions of fuse bits, and sets of them.
use Rattle.std.specs.Prelude.{◌≡◌, ℕ, zero, suc, ◌+◌, ◌*◌, ◌/◌, ◌%◌, ◌<◌, Bool, true, false, not, ◌&&◌, ◌==◌, nat_lt, nat_le, List, [], ◌∷◌, refl}
use Rattle.std.proofs.Common.{sym, ap, ap₂, ◌∙◌, inl, inr, arith, Ordering, nat_cmp, is_eq}
use Rattle.std.specs.List.{list_any}
use Rattle.std.specs.Ordering.{ordering_then, eq_by_cmp}
use Rattle.std.specs.Cmp.{IsTotalOrder, then_total, on_total, nat_cmp_total, Equal-is, tied_itself}
use Rattle.std.specs.Cmp.Derive.{one_truth}
use Rattle.std.specs.Coded.{Coded, code_by, coded×, coded_ℕ}
use Rattle.std.specs.FinSet as set
use Rattle.std.specs.FinSet.{FinSet, IsAntisymmetric}
use Rattle.std.proofs.lemmas.Bool.{or_cases, or_left, or_right, and_parts, and_from, lt-ltb, ltb-true, false≢true, cases_eq}
use Rattle.std.proofs.lemmas.Map.Lookups.{exact_pairs, exact_unsigned}
use Rattle.fusemap_core.specs.declared.pos.Pos.{Pos}

-- positions in order: by block, and then by bit
abbrev pub pos_cmp : Pos → Pos → Ordering
pos_cmp a b = ordering_then (nat_cmp a.block b.block) (nat_cmp a.bit b.bit)

-- a position is stored as a pair
abbrev pub coded_pos : Coded Pos
coded_pos = code_by (ℕ × ℕ) (coded× coded_ℕ coded_ℕ) (λ p. (p.block, p.bit)) (λ p. record { block = p.0; bit = p.1 }) (λ _. refl)

-- a set of positions
abbrev pub Positions : Type 0
Positions = FinSet pos_cmp

-- the order tells any two positions apart
pub pos_exact : IsAntisymmetric pos_cmp
pos_exact a b h =
    ap (λ (p : ℕ × ℕ). let r : Pos = record { block = p.0; bit = p.1 } in r)
    (exact_pairs nat_cmp nat_cmp exact_unsigned exact_unsigned (a.block, a.bit) (b.block, b.bit) h)

-- the order of positions is total
pub pos_total : IsTotalOrder pos_cmp
pos_total = then_total (on_total (λ (p : Pos). p.block) nat_cmp_total) (on_total (λ (p : Pos). p.bit) nat_cmp_total)

-- the set has no position
abbrev pub is_empty : Positions → Bool
is_empty s = set.len s == 0

-- the sets share a position
abbrev pub sets_meet : Positions → Positions → Bool
sets_meet s t = not (is_empty (set.intersection s t))

-- the position lies in 4 blocks of 8 words of 32 bits
abbrev pub is_place : Pos → Bool
is_place p = nat_lt p.block 4 && nat_lt p.bit 256

-- the fact that a position lies in 4 blocks of 8 words of 32 bits
abbrev pub IsPlace : Pos → Type 0
IsPlace p = (p.block < 4) × (p.bit < 256)

-- the positions of the first n bits, 256 of them in a block
first_places : ℕ → List Pos
first_places zero = []
first_places (suc n) = record { block = n / 256; bit = n % 256 } ∷ first_places n

-- all 1,024 positions
places : Positions
places = set.from_list (first_places 1024)

-- the positions of 4 blocks of 8 words that pass a test
pub places_where : (Pos → Bool) → Positions
places_where test = set.retain places test

-- the positions of a run of bits in one block
abbrev pub run : Pos → ℕ → Positions
run first count = places_where (λ p. first.block == p.block && (nat_le first.bit p.bit && nat_lt p.bit (first.bit + count)))

in_first : (n : ℕ) (p : Pos) → list_any (eq_by_cmp pos_cmp p) (first_places n) ≡ true → (256 * p.block + p.bit < n) × (p.bit < 256)
unfolding first_places
in_first zero p h = absurd (false≢true h)
in_first (suc n) p h =
    elim (or_cases (eq_by_cmp pos_cmp p (record { block = n / 256; bit = n % 256 })) (list_any (eq_by_cmp pos_cmp p) (first_places n)) h) as (λ _.
    (256 * p.block + p.bit < suc n) × (p.bit < 256)) [
      | inl e ↦
          let same : p ≡ record { block = n / 256; bit = n % 256 } = pos_exact p _ ((Equal-is (pos_cmp p (record { block = n / 256; bit = n % 256 }))).0 e) in
          let block : p.block ≡ n / 256 = ap (λ (q : Pos). q.block) same in
          let bit : p.bit ≡ n % 256 = ap (λ (q : Pos). q.bit) same in
          (omega (arith, block, bit), omega (arith, bit))
      | inr e ↦ let earlier = in_first n p e in (omega (arith, earlier.0), earlier.1)
    ]

to_first : (n : ℕ) (p : Pos) → 256 * p.block + p.bit < n → p.bit < 256 → list_any (eq_by_cmp pos_cmp p) (first_places n) ≡ true
unfolding first_places
to_first zero p low small = absurd (omega (arith, low))
to_first (suc n) p low small =
    elim (cases_eq (256 * p.block + p.bit) n) as (λ _. list_any (eq_by_cmp pos_cmp p) (first_places (suc n)) ≡ true) [
      | inl e ↦
          let block : n / 256 ≡ p.block = omega (arith, e, small) in
          let bit : n % 256 ≡ p.bit = omega (arith, e, small) in
          or_left (eq_by_cmp pos_cmp p (record { block = n / 256; bit = n % 256 })) _
          (ap₂ (λ (x y : ℕ). eq_by_cmp pos_cmp p (record { block = x; bit = y })) block bit ∙ ap is_eq (tied_itself pos_total p))
      | inr e ↦ or_right _ _ (to_first n p (omega (arith, low, e)) small)
    ]

contains-places : (p : Pos) → set.contains places p ≡ is_place p
unfolding places
contains-places p =
    set.contains-from_list pos_total (first_places 1024) p
    ∙ one_truth _ _
    (λ h. let parts = in_first 1024 p h in and_from _ _ (lt-ltb p.block 4 (omega (arith, parts.0, parts.1))) (lt-ltb p.bit 256 parts.1))
    (λ h. let parts = and_parts _ _ h in let block = ltb-true p.block 4 parts.0 in let bit = ltb-true p.bit 256 parts.1
    in to_first 1024 p (omega (arith, block, bit)) bit)

-- a position is among them where it lies in the blocks and passes the test
pub contains-places_where : (test : Pos → Bool) (p : Pos) → set.contains (places_where test) p ≡ (is_place p && test p)
unfolding places_where
contains-places_where test p =
    set.contains-retain places test p (λ x e. ap test (sym (pos_exact p x e))) ∙ ap (λ b. b && test p) (contains-places p)
