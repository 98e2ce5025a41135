use Rattle.std.proofs.Common.{All}
use Rattle.site_core.specs.Prelude.{IsSeatCaller}
use Rattle.test_support.proofs.lists.seat_requests.Given as goal

abbrev pub invariant-loop-exchange : goal.invariant-loop-exchange
invariant-loop-exchange l = All (λ asked. IsSeatCaller l.fn.site asked.caller) l.requests.items
