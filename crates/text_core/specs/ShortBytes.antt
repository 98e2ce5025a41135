-- Lists of bytes that have room for only so many.
use Rattle.std.specs.Prelude.{ℕ, List, length, nat_le, replicate, Option, Some, None, if◌then◌else◌}

-- the bytes, if there are at most so many
abbrev pub bytes_within : ℕ → List ℕ → Option (List ℕ)
bytes_within room bytes = if nat_le (length bytes) room then Some bytes else None

-- zeros, as many as `count`
abbrev pub zeros : ℕ → List ℕ
zeros count = replicate count 0
