use Rattle.std.proofs.Common.{◌≡◌, length, take}
use Rattle.office_core.specs.Prelude.{calls_of_parts}
use Rattle.office_core.proofs.requests.count_requests.Given as goal

abbrev pub invariant-loop-part : goal.invariant-loop-part
invariant-loop-part l = l.count ≡ length (calls_of_parts (take l.part-index l.parts))
