-- The whole numbers that a table has room for.
use Rattle.std.specs.Prelude.{ℕ, ◌+◌, Option, Some, None, nat_lt, if◌then◌else◌}

-- the largest of them
abbrev pub largest_number : ℕ
largest_number = 9223372036854775807

-- one more, where a table has room for it
abbrev pub one_more : ℕ → Option ℕ
one_more n = if nat_lt n largest_number then Some (n + 1) else None
