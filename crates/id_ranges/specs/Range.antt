-- Ranges of serial numbers.
use Rattle.std.specs.Prelude.{◌≡◌, ◌==◌, ℕ, ◌+◌, ◌-◌, ◌^◌, ◌<◌, ◌≤◌, Bool, true, not, ◌&&◌, nat_le, nat_lt, bytes_eq, List, ◌++◌, Result, Ok, Err}
use Rattle.std.specs.Prelude.{decimal, if◌then◌else◌}
use Rattle.std.specs.List.{list_any, range_with_len}
use Rattle.text_core.specs.Prelude.{is_prefix, zero_padded}
use Rattle.id_ranges.specs.declared.fault.RangeFault.{RangeFault}
use Rattle.id_ranges.specs.declared.fault.RangeFault.TheVariants.{BadText, TooWide}

-- consecutive numbers under one prefix, written in one width: the first of them, and how many there are
pub record Range : Type 0 where
  pub prefix : List ℕ
  pub width : ℕ
  pub first : ℕ
  pub quantity : ℕ

-- the number is one of the range's
abbrev pub Has : Range → ℕ → Type 0
Has r n = (r.first ≤ n) × (n < r.first + r.quantity)

-- the number has more digits than the width
abbrev pub is_number_too_wide : ℕ → ℕ → Bool
is_number_too_wide width n = nat_le (10 ^ width) n

-- what holds of each range: a prefix, a width of 1 to 9, a number at least, and no number that is too wide
pub record IsRange (r : Range) : Type 0 where
  pub prefix : is_prefix r.prefix ≡ true
  pub least_width : 1 ≤ r.width
  pub largest_width : r.width ≤ 9
  pub some : 1 ≤ r.quantity
  pub fits : r.first + r.quantity ≤ 10 ^ r.width

-- a range by its prefix, width, first number and quantity, or its lowest fault
abbrev pub range_of : List ℕ → ℕ → ℕ → ℕ → Result Range RangeFault
range_of prefix width first quantity =
    if not (is_prefix prefix) then Err BadText
    else if is_number_too_wide width (first + quantity - 1) then Err TooWide
    else Ok (record { prefix = prefix; width = width; first = first; quantity = quantity })

-- some number is in both ranges
abbrev pub SharesANumber : Range → Range → Type 0
SharesANumber a b = (n : ℕ) × Has a n × Has b n

-- two ranges of one prefix and width have a number in common
abbrev pub RangesOverlap : Range → Range → Type 0
RangesOverlap a b = (a.prefix ≡ b.prefix) × (a.width ≡ b.width) × SharesANumber a b

-- the range's numbers, the least first
abbrev pub numbers : Range → List ℕ
numbers r = range_with_len r.first r.quantity

-- two ranges meet: their prefixes and widths are equal, and a number of one is one of the other's
abbrev pub ranges_overlap : Range → Range → Bool
ranges_overlap a b =
    bytes_eq a.prefix b.prefix && (a.width == b.width) && list_any (λ n. nat_le b.first n && nat_lt n (b.first + b.quantity)) (numbers a)

-- the serial number of a number of the range, in characters of PrintableString (RFC 5280, appendix A): the prefix, and the number in decimal with zeros before
-- it up to the width
abbrev pub serial_text : Range → ℕ → List ℕ
serial_text r n = r.prefix ++ zero_padded r.width (decimal n)
