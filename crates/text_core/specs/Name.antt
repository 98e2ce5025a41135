-- What a name is.
use Rattle.std.specs.Prelude.{ℕ, List, length, Bool, ◌&&◌, ◌||◌, ◌==◌, nat_le, Option, Some, None, if◌then◌else◌}
use Rattle.std.specs.List.{list_all}
use Rattle.std.specs.Char.{is_ascii_alphanumeric}

-- a letter, a digit, a dot, an underscore or a hyphen
abbrev pub is_name_byte : ℕ → Bool
is_name_byte b = is_ascii_alphanumeric b || b == 46 || b == 95 || b == 45

-- 1 to 32 bytes of names
abbrev pub is_name : List ℕ → Bool
is_name text = nat_le 1 (length text) && nat_le (length text) 32 && list_all is_name_byte text

-- the text as a name
abbrev pub name_of_text : List ℕ → Option (List ℕ)
name_of_text text = if is_name text then Some text else None
