use Rattle.station_cli.proofs.Leading.{leads_itself}
use Rattle.station_cli.proofs.serving.serve_client.Goals as goal

pub returns-in_err-set_up-clause-reaches : goal.returns-in_err-set_up-clause-reaches
returns-in_err-set_up-clause-reaches g c = leads_itself g.K.Keep c.args.site.now c.fact_rules.ensures c.args.keep.now

pub returns-in_err-line-clause-reaches : goal.returns-in_err-line-clause-reaches
returns-in_err-line-clause-reaches g c = leads_itself g.K.Keep c.args.site.now c.fact_rules.ensures c.args.keep.now

pub returns-in_err-incoming-clause-reaches : goal.returns-in_err-incoming-clause-reaches
returns-in_err-incoming-clause-reaches g c = leads_itself g.K.Keep c.args.site.now c.fact_rules.ensures c.args.keep.now
