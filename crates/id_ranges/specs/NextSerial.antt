-- The next serial number of a range.
use Rattle.std.specs.Prelude.{◌≡◌, ℕ, ◌<◌, ◌≤◌, Bool, false, true, not, ◌&&◌, nat_le, List, Option, find, option_map}
use Rattle.id_ranges.specs.Range.{Range, Has, numbers, serial_text}

-- which texts are given
abbrev pub TextSet : Type 0
TextSet = List ℕ → Bool

-- a number's serial number isn't given
abbrev pub is_unused : TextSet → Range → ℕ → Bool
is_unused given r n = not (given (serial_text r n))

-- a number with its serial number
abbrev pub with_text : Range → ℕ → ℕ × List ℕ
with_text r n = (n, serial_text r n)

-- the least of the range's numbers whose serial number isn't given, with its serial number
abbrev pub next_serial : TextSet → Range → Option (ℕ × List ℕ)
next_serial given r = option_map (with_text r) (find (is_unused given r) (numbers r))

-- the least of the range's numbers from the cursor on whose serial number isn't given, with its serial number
abbrev pub next_serial_from : ℕ → TextSet → Range → Option (ℕ × List ℕ)
next_serial_from cursor given r = option_map (with_text r) (find (λ n. nat_le cursor n && is_unused given r n) (numbers r))

-- the numbers from one up to an end are given, one behind another; where there are none, the first isn't given
pub record EndsGiven (given : TextSet) (r : Range) (number end : ℕ) : Type 0 where
  pub all : (k : ℕ) → number ≤ k → k < end → given (serial_text r k) ≡ true
  pub none : end ≡ number → given (serial_text r number) ≡ false

-- a number of the range that isn't below the cursor, with its serial number
abbrev pub IsOneFrom : ℕ → Range → ℕ × List ℕ → Type 0
IsOneFrom cursor r next = Has r next.0 × (cursor ≤ next.0) × (next.1 ≡ serial_text r next.0)
