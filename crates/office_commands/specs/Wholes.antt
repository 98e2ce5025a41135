-- The whole numbers of requests.
use Rattle.std.specs.Prelude.{ℕ, ◌≤◌}

-- the largest whole number that every reader of JSON holds exactly, 2^53 - 1 (RFC 8259, section 6)
abbrev pub largest_whole : ℕ
largest_whole = 9007199254740991

-- what a seat numbers its requests with
pub record IsRequestNumber (number : ℕ) : Type 0 where
  pub least : 1 ≤ number
  pub largest : number ≤ largest_whole
