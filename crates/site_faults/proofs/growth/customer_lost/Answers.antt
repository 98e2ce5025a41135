use Rattle.std.proofs.Common.{ap, None, Some}
use Rattle.site_faults.proofs.Lost.{lost_by_name}
use Rattle.site_faults.proofs.growth.customer_lost.Goals as goal

pub returns-in-Some : goal.returns-in-Some
returns-in-Some c =
    lost_by_name c.args.new.now c.args.old.now c.name.result (Some c.in-Some.place) c.lost_at.result c.name.ensures c.in-Some.ensures c.lost_at.ensures

pub returns-in-None : goal.returns-in-None
returns-in-None c = lost_by_name c.args.new.now c.args.old.now c.name.result None (Some c.gone.result) c.name.ensures c.in-None.ensures (ap Some c.gone.ensures)
