use Rattle.station_cli.proofs.serving.serve_counted.Goals as goal

pub returns-clause-reaches : goal.returns-clause-reaches
returns-clause-reaches g c = rw (c.into_keep.ensures, ← c.over-counted.ensures) c.serve_port-served.ensures.reaches
