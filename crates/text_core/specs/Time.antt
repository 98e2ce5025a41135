-- What a time is as text.
use Rattle.std.specs.Prelude.{ℕ, List, length, take, slice_index, Bool, ◌&&◌, ◌==◌, Option, Some, None, if◌then◌else◌}
use Rattle.std.specs.List.{list_all}
use Rattle.std.specs.Char.{is_ascii_digit}

-- 14 digits and a Z: YYYYMMDDHHMMSSZ
abbrev pub is_time : List ℕ → Bool
is_time text = length text == 15 && list_all is_ascii_digit (take 14 text) && slice_index text 14 == 90

-- the text as a time
abbrev pub time_of_text : List ℕ → Option (List ℕ)
time_of_text text = if is_time text then Some text else None
