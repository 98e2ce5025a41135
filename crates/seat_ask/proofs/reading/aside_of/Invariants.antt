use Rattle.std.proofs.Common.{◌≡◌, take}
use Rattle.seat_ask.specs.Prelude.{aside_of}
use Rattle.seat_ask.proofs.reading.aside_of.Given as goal

abbrev pub invariant-loop-name : goal.invariant-loop-name
invariant-loop-name l = l.aside ≡ aside_of (take l.name-index l.names)
