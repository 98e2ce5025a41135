-- What a chip's identity is as text.
use Rattle.std.specs.Prelude.{ℕ, List, length, Bool, ◌&&◌, ◌||◌, ◌==◌, nat_le, Option, Some, None, if◌then◌else◌}
use Rattle.std.specs.List.{list_all}
use Rattle.std.specs.Char.{is_ascii_digit}

-- a decimal digit, or a letter from a to f
abbrev pub is_lower_hex_digit : ℕ → Bool
is_lower_hex_digit b = is_ascii_digit b || (nat_le 97 b && nat_le b 102)

-- twelve such bytes
abbrev pub is_chip : List ℕ → Bool
is_chip text = length text == 12 && list_all is_lower_hex_digit text

-- the text as a chip's identity
abbrev pub chip_of_text : List ℕ → Option (List ℕ)
chip_of_text text = if is_chip text then Some text else None
