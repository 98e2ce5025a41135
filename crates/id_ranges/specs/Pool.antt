-- Pools of hardware addresses.
use Rattle.std.specs.Prelude.{◌≡◌, ◌==◌, ℕ, ◌+◌, ◌/◌, ◌%◌, ◌^◌, ◌<◌, ◌≤◌, Bool, true, ◌&&◌, nat_le, Option, Some, None, if◌then◌else◌}
use Rattle.std.specs.List.{list_all, range_with_len}

-- consecutive addresses: the first one, and how many there are
pub record Pool : Type 0 where
  pub first : ℕ
  pub count : ℕ

-- the address of one station and of no group: the lowest bit of its first octet is 0 (IEEE 802)
abbrev pub is_individual : ℕ → Bool
is_individual mac = mac / 2 ^ 40 % 2 == 0

-- 1 to 16,777,216 addresses (2^24, an organizationally unique identifier's) below 2^48, each of them individual
abbrev pub is_pool : ℕ → ℕ → Bool
is_pool first count =
    nat_le 1 count && nat_le count 16777216 && nat_le (first + count) (2 ^ 48) && list_all is_individual (range_with_len first count)

-- the pool of so many addresses from a first one on, if they make one
abbrev pub pool_of : ℕ → ℕ → Option Pool
pool_of first count = if is_pool first count then Some (record { first = first; count = count }) else None

-- what holds of each pool
pub record IsPool (p : Pool) : Type 0 where
  pub least : 1 ≤ p.count
  pub largest : p.count ≤ 16777216
  pub within : p.first + p.count ≤ 2 ^ 48
  pub individual : (mac : ℕ) → p.first ≤ mac → mac < p.first + p.count → is_individual mac ≡ true
