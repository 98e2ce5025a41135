-- What a serial number is as text.
use Rattle.std.specs.Prelude.{ℕ, List, length, Bool, ◌&&◌, ◌||◌, ◌==◌, nat_le, Option, Some, None, if◌then◌else◌}
use Rattle.std.specs.List.{list_all}
use Rattle.std.specs.Char.{is_ascii_uppercase, is_ascii_digit}

-- a capital letter, a digit or a hyphen
abbrev pub is_serial_byte : ℕ → Bool
is_serial_byte b = is_ascii_uppercase b || is_ascii_digit b || b == 45

-- 1 to 64 bytes of serial numbers
abbrev pub is_serial : List ℕ → Bool
is_serial text = nat_le 1 (length text) && nat_le (length text) 64 && list_all is_serial_byte text

-- the text as a serial number
abbrev pub serial_of_text : List ℕ → Option (List ℕ)
serial_of_text text = if is_serial text then Some text else None
