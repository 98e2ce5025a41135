use Rattle.std.proofs.Common.{◌≡◌, ◌++◌, drop, map, take}
use Rattle.yield_counts.specs.Left.{less_one}
use Rattle.yield_counts.proofs.left.take_in.Given as goal

-- the ranges so far have their new numbers
abbrev pub invariant-loop-one : goal.invariant-loop-one
invariant-loop-one l = l.one-items ≡ map (less_one l.serial) (take l.one-index l.fn.ranges.items) ++ drop l.one-index l.fn.ranges.items
