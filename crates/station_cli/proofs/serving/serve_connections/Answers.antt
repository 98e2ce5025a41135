use Rattle.std.proofs.Common.{rules}
use Rattle.station_cli.proofs.Leading.{leads_itself, leads_both}
use Rattle.station_cli.proofs.serving.serve_connections.Goals as goal

pub loop-turn-init : goal.loop-turn-init
loop-turn-init g c = record {
  was_honest = λ honest. honest;
  reaches = leads_itself g.K.Keep c.args.site.now c.fact_rules.ensures c.args.keep.now;
  counted = search rules;
}

pub loop-turn-preserved : goal.loop-turn-preserved
loop-turn-preserved g c =
    let seen = c.loop-turn.invariant in
    let turn = c.serve_client.ensures in
    record {
      was_honest = λ honest. seen.was_honest (turn.was_honest honest);
      reaches = leads_both g.K.Keep c.args.site.now c.args.keep.now c.loop-turn.keep
          c.serve_client.new.keep c.fact_rules.ensures turn.was_honest
          seen.reaches turn.reaches;
      counted = search rules;
    }
