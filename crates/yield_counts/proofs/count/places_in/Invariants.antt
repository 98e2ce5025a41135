use Rattle.std.proofs.Common.{◌≡◌, take}
use Rattle.std.specs.Prelude.{sum}
use Rattle.yield_counts.proofs.count.places_in.Given as goal

-- the places so far are those of the columns so far
abbrev pub invariant-loop-number : goal.invariant-loop-number
invariant-loop-number l = l.places ≡ sum (take l.number-index l.numbers)
