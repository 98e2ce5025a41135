-- What one given serial number adds to a run of them.
use Rattle.std.specs.Prelude.{◌≡◌, ◌+◌, ◌-◌, ◌^◌, ◌&&◌, ℕ, Bool, true, false, List, bytes_eq, min, nat_le, nat_lt}
use Rattle.id_ranges.specs.Prelude.{Range, serial_text}
use Rattle.office_judges.specs.declared.serials.GivenRun.{GivenRun}

-- a number is one of the range's, and a text is its serial number
abbrev pub is_text_of : Range → ℕ → List ℕ → Bool
is_text_of r number text = nat_le r.first number && nat_lt number (r.first + r.quantity) && bytes_eq (serial_text r number) text

-- the serial number is that of the number behind the run, which is one longer then; or it is another, and the walk ends
pub record PassesGiven (old : GivenRun) (serial : List ℕ) (goes_on : Bool) (new : GivenRun) : Type 0 where
  pub range : new.range ≡ old.range
  pub tested : goes_on ≡ is_text_of old.range old.end serial
  pub longer : goes_on ≡ true → new.end ≡ min (old.end + 1) (2 ^ 64 - 1)
  pub ended : goes_on ≡ false → new.end ≡ old.end
