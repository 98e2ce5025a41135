use Rattle.site_core.specs.Prelude.{site_read}
use Rattle.site_faults.proofs.Telling.{told_from_read}
use Rattle.site_faults.proofs.told.read_told_site.Goals as goal

pub returns-in-Err : goal.returns-in-Err
returns-in-Err c =
    told_from_read c.args.text.now (site_read c.args.text.now) c.in-Err.fault c.told_fault.result c.in-Err.ensures.exact c.told_fault.ensures
