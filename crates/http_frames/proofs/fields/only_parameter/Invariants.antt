use Rattle.std.proofs.Common.{◌≡◌, length, List, ℕ, ◌++◌}
use Rattle.http_frames.specs.Prelude.{IsOccurrence, parameters_named}
use Rattle.http_frames.proofs.fields.only_parameter.Given as goal

abbrev pub invariant-loop-piece : goal.invariant-loop-piece
invariant-loop-piece l = (before : List (List ℕ)) × IsOccurrence before l.found × (before ++ parameters_named l.name l.rest ≡ parameters_named l.name l.query)

abbrev pub decreases-loop-piece : goal.decreases-loop-piece
decreases-loop-piece l = length l.rest
