-- What holds of ranges and their serial numbers.
use Rattle.std.specs.Prelude.{◌≡◌, ◌≢◌, ◌↔◌, IsTrue, ℕ, ◌<◌, ◌≤◌, true, false, Some, None}
use Rattle.text_core.specs.Prelude.{is_serial}
use Rattle.id_ranges.specs.Range.{Range, IsRange, Has, RangesOverlap, ranges_overlap, serial_text}
use Rattle.id_ranges.specs.NextSerial.{TextSet, next_serial, next_serial_from}

-- the test whether two ranges meet says whether they are of one prefix and width and have a number in common
abbrev pub MeetsIsTested : Type 0
MeetsIsTested = (a b : Range) → IsTrue (ranges_overlap a b) ↔ RangesOverlap a b

-- each number of a range has a serial number: 1 to 64 capital letters, digits and hyphens
abbrev pub TextsAreSerials : Type 0
TextsAreSerials = (r : Range) → IsRange r → (n : ℕ) → Has r n → is_serial (serial_text r n) ≡ true

-- two numbers of one range have two serial numbers
abbrev pub NumbersDiffer : Type 0
NumbersDiffer = (r : Range) → IsRange r → (m n : ℕ) → Has r m → Has r n → m ≢ n → serial_text r m ≢ serial_text r n

-- two ranges of one prefix and two widths have no serial number in common
abbrev pub WidthsDiffer : Type 0
WidthsDiffer =
    (r s : Range) → IsRange r → IsRange s → r.prefix ≡ s.prefix → r.width ≢ s.width
    → (m n : ℕ) → Has r m → Has s n → serial_text r m ≢ serial_text s n

-- the number is the least of the range's that isn't below the cursor and whose serial number isn't given
pub record IsLeastUnused (cursor : ℕ) (given : TextSet) (r : Range) (n : ℕ) : Type 0 where
  pub has : Has r n
  pub from : cursor ≤ n
  pub unused : given (serial_text r n) ≡ false
  pub least : (k : ℕ) → Has r k → cursor ≤ k → k < n → given (serial_text r k) ≡ true

-- the next serial number is that of the least such number
abbrev pub NextIsLeast : Type 0
NextIsLeast =
    (cursor : ℕ) (given : TextSet) (r : Range) (n : ℕ) → (next_serial_from cursor given r ≡ Some (n, serial_text r n)) ↔ IsLeastUnused cursor given r n

-- a range has no next serial number from the cursor on just where each of its numbers from there on is given
abbrev pub NoneIsLeft : Type 0
NoneIsLeft =
    (cursor : ℕ) (given : TextSet) (r : Range)
    → (next_serial_from cursor given r ≡ None) ↔ ((k : ℕ) → Has r k → cursor ≤ k → given (serial_text r k) ≡ true)

-- where each of the range's numbers below the cursor is given, the next serial number from the cursor is the next one of all
abbrev pub CursorSkipsIssued : Type 0
CursorSkipsIssued =
    (cursor : ℕ) (given : TextSet) (r : Range) → ((n : ℕ) → Has r n → n < cursor → given (serial_text r n) ≡ true)
    → next_serial_from cursor given r ≡ next_serial given r
