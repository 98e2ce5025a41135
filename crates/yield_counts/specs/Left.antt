-- The numbers of serial numbers that are left, and when they are right.
use Rattle.std.specs.Prelude.{◌≡◌, ◌-◌, ◌||◌, ◌&&◌, ℕ, false, List, Vec, Some, All, bytes_eq, if◌then◌else◌}
use Rattle.std.specs.BTreeMap.{get}
use Rattle.std.specs.declared.alloc.Global.{Global}
use Rattle.id_ranges.specs.Prelude.{TextSet, IsRange}
use Rattle.office_tables.specs.Prelude.{text_cmp}
use Rattle.yield_counts.specs.Counts.{HasIssued, count_unused}
use Rattle.yield_counts.specs.Serials.{has_serial}
use Rattle.yield_counts.specs.declared.left.RangeLeft.{RangeLeft}
use Rattle.yield_counts.specs.declared.left.LeftCounts.{LeftCounts}

-- a range's number is right
pub record IsLeft (given : TextSet) (one : RangeLeft) : Type 0 where
  pub range : IsRange one.range
  pub left : one.left ≡ count_unused given one.range

-- the numbers of an issuer's ranges are right
abbrev pub AreLeftOf : TextSet → List RangeLeft → Type 0
AreLeftOf given ranges = All (IsLeft given) ranges

-- those of each issuer are
abbrev pub AreLeft : HasIssued → LeftCounts → Type 0
AreLeft given c = (issuer : List ℕ) (ranges : Vec RangeLeft Global) → get text_cmp c.issuers issuer ≡ Some ranges
    → AreLeftOf (given issuer) ranges.items

-- one serial number less is left of a range that has this one
abbrev pub less_one : List ℕ → RangeLeft → RangeLeft
less_one serial one = if has_serial one.range serial then record one { left = one.left - 1 } else one

-- a serial number of an issuer that wasn't given is given, and no other
pub record IsGivenToo (issuer serial : List ℕ) (given after : HasIssued) : Type 0 where
  pub new : given issuer serial ≡ false
  pub follows : (i s : List ℕ) → after i s ≡ ((bytes_eq issuer i && bytes_eq serial s) || given i s)

-- in each issuer but one the same serial numbers are given
abbrev pub AgreeOff : List ℕ → HasIssued → HasIssued → Type 0
AgreeOff issuer given after = (other : List ℕ) → bytes_eq other issuer ≡ false → after other ≡ given other
