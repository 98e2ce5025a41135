-- Addresses of a pool.
use Rattle.std.proofs.Common.{◌≡◌, ◌+◌, ◌-◌, ◌/◌, ◌%◌, ◌^◌, ◌<◌, ◌≤◌, ◌==◌, ◌&&◌, ◌⊎◌}
use Rattle.text_core.proofs.Kit.{ℕ, nat_le, Bool, true, false, Some, inl, inr, refl, ap, ◌∙◌, arith, and_parts, cases_lt, false_from_ne_true, leb-true, le-leb}
use Rattle.text_core.proofs.Kit.{list_all, range_with_len, cond_some}
use Rattle.id_ranges.specs.Prelude.{Pool, IsPool, pool_of, is_pool, is_individual}
use Rattle.id_ranges.proofs.Ranges.{list_all-range, in_list_all-range}

-- an address between two that are less than 2^40 apart has the first octet of one of them
octet_between : (first last k : ℕ) → first ≤ k → k ≤ last → last < first + 2 ^ 40 → (k / 2 ^ 40 ≡ first / 2 ^ 40) ⊎ (k / 2 ^ 40 ≡ last / 2 ^ 40)
octet_between first last k low high near =
    elim (cases_lt (first / 2 ^ 40) (k / 2 ^ 40)) [ inl past ↦ inr (omega arith) | inr here ↦ inl (omega arith) ]

-- such an address is individual if both are
individual_between : (first last k : ℕ) → first ≤ k → k ≤ last → last < first + 2 ^ 40 → is_individual first ≡ true → is_individual last ≡ true
    → is_individual k ≡ true
individual_between first last k low high near a b =
    let P : ℕ → Bool = λ octet. octet % 2 == 0 in
    elim (octet_between first last k low high near) [ inl same ↦ ap P same ∙ a | inr same ↦ ap P same ∙ b ]

-- the ends of a pool stand for its other addresses
pub ends_individual : (first count : ℕ) → 1 ≤ count → count ≤ 2 ^ 24 → is_individual first ≡ true → is_individual (first + (count - 1)) ≡ true
    → list_all is_individual (range_with_len first count) ≡ true
ends_individual first count some few a b =
    list_all-range is_individual first count (λ k low high. individual_between first (first + (count - 1)) k low (omega arith) (omega arith) a b)

-- no pool begins with a group address
pub first_group : (first count : ℕ) → 1 ≤ count → is_individual first ≡ false → list_all is_individual (range_with_len first count) ≡ false
first_group first count some a =
    false_from_ne_true _ (λ all. let b = in_list_all-range is_individual first count first all (omega arith) (omega arith) in cc)

-- no pool ends with a group address
pub last_group : (first count : ℕ) → 1 ≤ count → is_individual (first + (count - 1)) ≡ false → list_all is_individual (range_with_len first count) ≡ false
last_group first count some a =
    false_from_ne_true _ (λ all. let b = in_list_all-range is_individual first count (first + (count - 1)) all (omega arith) (omega arith) in cc)

-- what a test of a pool's ends uses
pub ruleset ends = (ends_individual, first_group, last_group)

-- what makes a pool has what holds of each pool
pub IsPool-from_pool_of : (first count : ℕ) (p : Pool) → pool_of first count ≡ Some p → IsPool p
IsPool-from_pool_of first count p made =
    let parts = cond_some (is_pool first count) (record { first = first; count = count }) p made in
    let outer =
    and_parts (nat_le 1 count && nat_le count 0x100_0000 && nat_le (first + count) (2 ^ 48)) (list_all is_individual (range_with_len first count)) parts.0
    in
    let inner = and_parts (nat_le 1 count && nat_le count 0x100_0000) (nat_le (first + count) (2 ^ 48)) outer.0 in
    let counts = and_parts (nat_le 1 count) (nat_le count 0x100_0000) inner.0 in
    let same : record { first = first; count = count } ≡ p = parts.1 in
    rw (← same) record {
      least = leb-true _ _ counts.0;
      largest = leb-true _ _ counts.1;
      within = leb-true _ _ inner.1;
      individual = λ mac low high. in_list_all-range is_individual first count mac outer.1 low high;
    }

-- each pool is made of its first address and its count
pub pool_of-from_IsPool : (p : Pool) → IsPool p → pool_of p.first p.count ≡ Some p
pool_of-from_IsPool p h =
    let each = list_all-range is_individual p.first p.count h.individual in
    rw (le-leb _ _ h.least, le-leb _ _ h.largest, le-leb _ _ h.within, each) refl
