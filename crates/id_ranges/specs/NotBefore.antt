-- The beginning of a record's validity, as a certificate's GeneralizedTime has it (RFC 5280, section 4.1.2.5.2): YYYYMMDDHHMMSSZ.
use Rattle.std.specs.Prelude.{ℕ, ◌+◌, ◌*◌, Bool, ◌&&◌, nat_lt, List, slice_index, Option, option_and_then, Result, Ok, Err, if◌then◌else◌}
use Rattle.std.specs.Char.{digit_value}
use Rattle.std.specs.Result.{result_ok}
use Rattle.text_core.specs.Prelude.{is_time}
use Rattle.id_ranges.specs.Calendar.{is_date}
use Rattle.id_ranges.specs.declared.fault.RangeFault.{RangeFault}
use Rattle.id_ranges.specs.declared.fault.RangeFault.TheVariants.{BadNotBefore}

-- the number that two digits of a text write, the first of them at this place
abbrev pub two_digits : List ℕ → ℕ → ℕ
two_digits text place = digit_value (slice_index text place) * 10 + digit_value (slice_index text (place + 1))

-- the calendar has the day of a time: its year has four digits, its month and its day two
abbrev pub has_date : List ℕ → Bool
has_date text = is_date (two_digits text 0 * 100 + two_digits text 2) (two_digits text 4) (two_digits text 6)

-- the hour of a time is below 24, its minute and its second below 60
abbrev pub has_clock : List ℕ → Bool
has_clock text = nat_lt (two_digits text 8) 24 && nat_lt (two_digits text 10) 60 && nat_lt (two_digits text 12) 60

-- 14 digits and a Z, with a day that exists and an hour, a minute and a second of the day
abbrev pub is_not_before : List ℕ → Bool
is_not_before text = is_time text && has_date text && has_clock text

-- the text, if a validity can begin then
abbrev pub not_before_of : List ℕ → Result (List ℕ) RangeFault
not_before_of text = if is_not_before text then Ok text else Err BadNotBefore

-- a beginning that may be missing; a text that is none counts as missing
abbrev pub not_before_in : Option (List ℕ) → Option (List ℕ)
not_before_in asked = option_and_then (λ text. result_ok (not_before_of text)) asked
