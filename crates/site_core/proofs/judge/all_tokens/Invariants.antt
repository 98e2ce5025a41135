use Rattle.std.proofs.Common.{◌≡◌, map, take}
use Rattle.site_core.specs.Prelude.{with_token}
use Rattle.site_core.proofs.judge.all_tokens.Given as goal

abbrev pub invariant-loop-seat : goal.invariant-loop-seat
invariant-loop-seat l = l.tokens.items ≡ with_token l.fn.manager (map (λ seat. seat.token) (take l.seat-index l.seats))
