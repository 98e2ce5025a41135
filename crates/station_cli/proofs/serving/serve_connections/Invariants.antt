use Rattle.std.proofs.Common.{◌≡◌}
use Rattle.station_cli.specs.Prelude.{LeadsOn}
use Rattle.station_cli.proofs.serving.serve_connections.Given as goal

abbrev pub invariant-loop-turn : goal.invariant-loop-turn
invariant-loop-turn g l = record {
  was_honest : g.K.Keep.is_honest l.keep → g.K.Keep.is_honest l.fn.keep;
  reaches : LeadsOn g.K.Keep l.fn.site l.fn.keep l.keep;
  counted : l.arrivals.given ≡ l._turn;
}
