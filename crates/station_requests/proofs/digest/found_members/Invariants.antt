use Rattle.std.proofs.Common.{◌≡◌, take, map}
use Rattle.serde_json.specs.View.{view, members_view}
use Rattle.station_requests.specs.Prelude.{named_members}
use Rattle.station_requests.proofs.digest.found_members.Given as goal

abbrev pub invariant-loop-name : goal.invariant-loop-name
invariant-loop-name l = members_view l.members.entries ≡ named_members (map (λ n. n.now) (take l.name-index l.names)) (view l.value)
