-- A list at the front of an array.
use Rattle.std.specs.Prelude.{◌≡◌, ◌-◌, ◌≤◌, ℕ, List, length, drop, replicate}

-- the first elements of an array of this size, with blanks after them
pub record AreAtFront {X : Type 0} (size : ℕ) (blank : X) (array : List X) (len : ℕ) : Type 0 where
  pub room : length array ≡ size
  pub within : len ≤ size
  pub blanks : drop len array ≡ replicate (size - len) blank
