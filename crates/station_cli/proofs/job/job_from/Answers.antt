use Rattle.station_cli.proofs.Options.{both_parts}
use Rattle.station_cli.proofs.job.job_from.Goals as goal

pub returns-in-Some : goal.returns-in-Some
returns-in-Some c =
    rw (both_parts _ _ _ _ _ c.in-Some.ensures.name c.in-Some.ensures.rows) c.job_by.ensures
