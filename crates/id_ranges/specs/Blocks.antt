-- Blocks of consecutive addresses, taken from pools.
use Rattle.std.specs.Prelude.{ℕ, ◌+◌, ◌-◌, ◌<◌, ◌≤◌, Bool, not, ◌&&◌, nat_lt, nat_le, min, max, List, Option, find, flat_map}
use Rattle.std.specs.List.{list_all, list_any, range_with_len}
use Rattle.id_ranges.specs.Pool.{Pool}

-- the address is in the interval, which is its first address and its length
abbrev pub is_in : ℕ × ℕ → ℕ → Bool
is_in interval mac = nat_le interval.0 mac && nat_lt mac (interval.0 + interval.1)

-- none of so many addresses from this one on is in an interval
abbrev pub is_free : List (ℕ × ℕ) → ℕ → ℕ → Bool
is_free intervals count start =
    list_all (λ mac. not (list_any (λ interval. is_in interval mac) intervals)) (range_with_len start count)

-- the addresses of the pool from which so many lie within it
abbrev pub starts : ℕ → Pool → List ℕ
starts count pool = range_with_len pool.first (pool.count + 1 - count)

-- the first start, in the pools' order, from which so many addresses of a pool are free
abbrev pub reserved_start : List Pool → List (ℕ × ℕ) → ℕ → Option ℕ
reserved_start pools intervals count = find (is_free intervals count) (flat_map (starts count) pools)

-- two intervals have an address in common: the later of their starts is below the earlier of their ends
abbrev pub blocks_overlap : ℕ × ℕ → ℕ × ℕ → Bool
blocks_overlap a b = nat_lt (max a.0 b.0) (min (a.0 + a.1) (b.0 + b.1))

-- the address is in the interval
abbrev pub IsIn : ℕ × ℕ → ℕ → Type 0
IsIn interval mac = (interval.0 ≤ mac) × (mac < interval.0 + interval.1)

-- no address is in both intervals
abbrev pub IsApart : ℕ × ℕ → ℕ × ℕ → Type 0
IsApart a b = (mac : ℕ) → IsIn a mac → IsIn b mac → ⊥

-- the interval lies within the pool
abbrev pub IsBlockWithin : ℕ × ℕ → Pool → Type 0
IsBlockWithin interval pool = (pool.first ≤ interval.0) × (interval.0 + interval.1 ≤ pool.first + pool.count)
