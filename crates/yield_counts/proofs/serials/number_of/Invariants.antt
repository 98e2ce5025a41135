use Rattle.std.proofs.Common.{◌≡◌, take}
use Rattle.std.specs.Str.Parse.{digits_value, AllDigits}
use Rattle.yield_counts.proofs.serials.number_of.Given as goal

-- the number so far is that of the digits so far
abbrev pub invariant-loop-digit : goal.invariant-loop-digit
invariant-loop-digit l = AllDigits 10 l.digits → l.number ≡ digits_value 10 (take l.digit-index l.digits)
