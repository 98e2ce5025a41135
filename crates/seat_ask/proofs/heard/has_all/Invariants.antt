use Rattle.std.proofs.Common.{◌≡◌, drop, map}
use Rattle.serde_json.specs.View.{view}
use Rattle.seat_ask.specs.Prelude.{has_all}
use Rattle.seat_ask.proofs.heard.has_all.Given as goal

abbrev pub invariant-loop-name : goal.invariant-loop-name
invariant-loop-name l = has_all (view l.value) (map (λ name. name.now) l.names) ≡ has_all (view l.value) (map (λ name. name.now) (drop l.name-index l.names))
