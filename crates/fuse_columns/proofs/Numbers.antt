-- Numbers with a 1 at each place that passes a test.
use Rattle.std.proofs.Common.{ℕ, zero, suc, ◌^◌, ◌<◌, ◌≤◌, Bool, true, false, cond, arith}
use Rattle.std.proofs.Math.Nat.{pow-suc}
use Rattle.fuse_image.specs.Prelude.{number_with}

-- the bits below n are less than 2 to the power of n
at_most_once : (b : Bool) (k : ℕ) → cond b k 0 ≤ k
at_most_once true k = omega arith
at_most_once false k = omega arith

pub number_with-lt : (test : ℕ → Bool) (n : ℕ) → number_with test n < 2 ^ n
unfolding number_with
number_with-lt test zero = omega arith
number_with-lt test (suc n) = omega (arith, number_with-lt test n, at_most_once (test n) (2 ^ n), pow-suc 2 n)
