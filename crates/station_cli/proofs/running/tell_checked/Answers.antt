use Rattle.station_cli.proofs.Outcomes.{line_ended, value_holds}
use Rattle.station_cli.proofs.running.tell_checked.Goals as goal

pub returns-in-Ok-clause-site : goal.returns-in-Ok-clause-site
returns-in-Ok-clause-site g c =
    let told = c.finish.ensures in
    value_holds c.args.checked c.in-Ok.site _ c.in-Ok.is
    (line_ended c.line_written.result c.finish.result _ _ _ c.line_written.ensures told.status told.prints_nothing told.told)
