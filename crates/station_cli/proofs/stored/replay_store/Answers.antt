use Rattle.std.proofs.Common.{◌≡◌, ◌⊎◌, ap, inr, Err}
use Rattle.station_cli.proofs.Leading.{serves_for}
use Rattle.station_cli.proofs.stored.replay_store.Goals as goal

pub returns-in-Err-clause-books : goal.returns-in-Err-clause-books
returns-in-Err-clause-books g c = (ap Err c.store_failure.ensures, c.in-Err.ensures.refused)

pub returns-in-Err-clause-failed : goal.returns-in-Err-clause-failed
returns-in-Err-clause-failed g c = inr (c.in-Err.refused.fault, c.store_failure.ensures)

pub replay_over-served-requires-clause-limit : goal.replay_over-served-requires-clause-limit
replay_over-served-requires-clause-limit g c = c.in-Ok.ensures.opened.limit

pub returns-clause-books : goal.returns-clause-books
returns-clause-books g c = record {
  opened = c.in-Ok.keep;
  last = c.replay_over-served.result.1;
  opens = c.in-Ok.ensures.opened;
  leads = serves_for (g.R.Source.left c.args.reader.now) (g.R.Source.left c.replay_over-served.new.reader) (g.W.Drain.written c.args.writer.now)
      (g.W.Drain.written c.replay_over-served.new.writer) c.replay_over-served.result.0 c.site.ensures.same c.replay_over-served.ensures.run;
  was_honest = c.replay_over-served.ensures.was_honest;
  leaves = c.close.ensures;
}

pub returns-clause-ended : goal.returns-clause-ended
returns-clause-ended g c = let run = c.replay_over-served.ensures.run in (run.0, run.1)
