-- Free blocks of addresses.
use Rattle.std.proofs.Common.{◌≡◌, ◌+◌, ◌<◌, ◌≤◌}
use Rattle.text_core.proofs.Kit.{ℕ, max, true, false, not, List, length, slice_index_or, All, ap, sym, ◌∙◌, arith, lt-ltb, ltb-true, le-leb, leb-true, not-true}
use Rattle.text_core.proofs.Kit.{and_from, and_parts, both_ways, false_from_ne_true, list_any_at, list_any_none, list_any}
use Rattle.id_ranges.specs.Prelude.{is_in, blocks_overlap, is_free, IsIn, IsApart}
use Rattle.id_ranges.proofs.Ranges.{list_all-range, in_list_all-range}

-- two intervals that meet have an address in common
pub IsIn-from_meets : (a b : ℕ × ℕ) → blocks_overlap a b ≡ true → (mac : ℕ) × IsIn a mac × IsIn b mac
IsIn-from_meets a b h =
    let met = ltb-true _ _ h in
    (max a.0 b.0, (omega arith, omega arith), (omega arith, omega arith))

-- two intervals with an address in common meet
pub blocks_overlap-from_IsIn : (a b : ℕ × ℕ) (mac : ℕ) → IsIn a mac → IsIn b mac → blocks_overlap a b ≡ true
blocks_overlap-from_IsIn a b mac one other = lt-ltb _ _ (omega arith)

-- the test of an interval's addresses
pub is_in-from_IsIn : (interval : ℕ × ℕ) (mac : ℕ) → IsIn interval mac → is_in interval mac ≡ true
is_in-from_IsIn interval mac inside = and_from _ _ (le-leb _ _ inside.0) (lt-ltb _ _ inside.1)

-- an address that passes it is in the interval
pub IsIn-from_is_in : (interval : ℕ × ℕ) (mac : ℕ) → is_in interval mac ≡ true → IsIn interval mac
IsIn-from_is_in interval mac h = let parts = and_parts _ _ h in (leb-true _ _ parts.0, ltb-true _ _ parts.1)

-- an address of a block that is in an interval shows that the block isn't free
pub not_free-from_IsIn : (intervals : List (ℕ × ℕ)) (start count mac : ℕ) → IsIn (start, count) mac → list_any (λ interval.
    is_in interval mac) intervals ≡ true → is_free intervals count start ≡ false
not_free-from_IsIn intervals start count mac inside taken =
    false_from_ne_true _ (λ free.
    both_ways _ (not-true _ (in_list_all-range (λ m. not (list_any (λ interval. is_in interval m) intervals)) start count mac free inside.0 inside.1)) taken)

-- no address of a free block is in an interval
pub apart-from_free : (intervals : List (ℕ × ℕ)) (start count : ℕ) → is_free intervals count start ≡ true → All (IsApart (start, count)) intervals
apart-from_free intervals start count free = λ k d below mac one other.
    both_ways _ (not_free-from_IsIn intervals start count mac one
    (list_any_at (λ interval. is_in interval mac) intervals k d below (is_in-from_IsIn _ mac other))) free

-- a block is free if none of its addresses is in an interval
pub free-from_apart : (intervals : List (ℕ × ℕ)) (start count : ℕ) → All (IsApart (start, count)) intervals → is_free intervals count start ≡ true
free-from_apart intervals start count apart =
    list_all-range (λ m. not (list_any (λ interval. is_in interval m) intervals)) start count (λ mac low high.
    ap not (list_any_none (λ interval. is_in interval mac) intervals (λ k d below.
    false_from_ne_true _ (λ passes. apart k d below mac (low, high) (IsIn-from_is_in (slice_index_or intervals k d) mac passes)))))

-- where the interval at i meets a block, no block of that length from the first one's start to the interval's end is free
pub not_free_later : (intervals : List (ℕ × ℕ)) (start count k i : ℕ) (interval : ℕ × ℕ) → 1 ≤ count → i < length intervals
    → interval ≡ slice_index_or intervals i interval → blocks_overlap (start, count) interval ≡ true → start ≤ k → k < interval.0 + interval.1
    → is_free intervals count k ≡ false
not_free_later intervals start count k i interval some below here meets low high =
    let met = IsIn-from_meets (start, count) interval meets in
    let mac : ℕ = max k interval.0 in
    let inside : IsIn interval mac = (omega arith, omega arith) in
    not_free-from_IsIn intervals k count mac (omega arith, omega arith)
    (list_any_at (λ j. is_in j mac) intervals i interval below (ap (λ j. is_in j mac) (sym here) ∙ is_in-from_IsIn interval mac inside))

-- a block that no interval meets is free
pub free_from_none : (intervals : List (ℕ × ℕ)) (start count : ℕ) → ((j : ℕ) (d : ℕ × ℕ) → j < length intervals
    → blocks_overlap (start, count) (slice_index_or intervals j d) ≡ false)
    → is_free intervals count start ≡ true
free_from_none intervals start count none =
    free-from_apart intervals start count (λ k d below mac one other.
    both_ways _ (none k d below) (blocks_overlap-from_IsIn (start, count) (slice_index_or intervals k d) mac one other))

-- the end of an interval that meets a block is past the block's start
pub end_past_start : (start count : ℕ) (interval : ℕ × ℕ) → blocks_overlap (start, count) interval ≡ true → start < interval.0 + interval.1
end_past_start start count interval meets = let met = ltb-true _ _ meets in omega arith
