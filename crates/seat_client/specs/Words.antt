-- What the words of `station ask` are held to.
use Rattle.std.specs.Prelude.{ℕ, Bool, ◌||◌, ◌==◌}
use Rattle.std.specs.Char.{is_ascii_alphanumeric}

-- a letter, a digit, `-`, `.` or `:`
abbrev pub is_host_byte : ℕ → Bool
is_host_byte b = is_ascii_alphanumeric b || (b == 45 || (b == 46 || b == 58))
