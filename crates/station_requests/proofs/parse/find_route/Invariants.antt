use Rattle.std.proofs.Common.{◌≡◌, drop, map}
use Rattle.station_requests.specs.Prelude.{route_entry, route_among}
use Rattle.station_requests.proofs.parse.find_route.Given as goal

abbrev pub invariant-loop-row : goal.invariant-loop-row
invariant-loop-row l = route_among l.method l.path (map route_entry l.rows) ≡ route_among l.method l.path (map route_entry (drop l.row-index l.rows))
