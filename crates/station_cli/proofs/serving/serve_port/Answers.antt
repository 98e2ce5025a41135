use Rattle.station_cli.proofs.Leading.{leads_both, leads_by_read}
use Rattle.station_cli.proofs.serving.serve_port.Goals as goal

pub returns-in_err-listener-clause-reaches : goal.returns-in_err-listener-clause-reaches
returns-in_err-listener-clause-reaches g c =
    leads_by_read g.K.Keep c.args.site.now c.fact_rules.ensures c.args.keep.now c.site_report-counted.new.keep c.site_report-counted.ensures.read_only

pub returns-then-is_err-clause-reaches : goal.returns-then-is_err-clause-reaches
returns-then-is_err-clause-reaches g c =
    leads_by_read g.K.Keep c.args.site.now c.fact_rules.ensures c.args.keep.now c.site_report-counted.new.keep c.site_report-counted.ensures.read_only

pub returns-clause-reaches : goal.returns-clause-reaches
returns-clause-reaches g c =
    let counted = c.site_report-counted in
    leads_both g.K.Keep c.args.site.now c.args.keep.now counted.new.keep c.serve_connections.new.keep c.fact_rules.ensures
    c.serve_connections.ensures.was_honest
    (leads_by_read g.K.Keep c.args.site.now c.fact_rules.ensures c.args.keep.now counted.new.keep counted.ensures.read_only)
    c.serve_connections.ensures.reaches
