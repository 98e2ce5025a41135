-- What a prefix of serial numbers is.
use Rattle.std.specs.Prelude.{ℕ, List, length, Bool, ◌&&◌, nat_le, Option, Some, None, if◌then◌else◌}
use Rattle.std.specs.List.{list_all}
use Rattle.text_core.specs.Serial.{is_serial_byte}

-- 1 to 32 bytes of serial numbers
abbrev pub is_prefix : List ℕ → Bool
is_prefix text = nat_le 1 (length text) && nat_le (length text) 32 && list_all is_serial_byte text

-- the text as a prefix
abbrev pub prefix_of_text : List ℕ → Option (List ℕ)
prefix_of_text text = if is_prefix text then Some text else None
