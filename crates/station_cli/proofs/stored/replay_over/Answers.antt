use Rattle.station_cli.proofs.stored.replay_over.Goals as goal

pub returns-clause-run : goal.returns-clause-run
returns-clause-run g c = rw (c.into_keep.ensures, ← c.over-counted.ensures) c.serve_stream-served.ensures.run
