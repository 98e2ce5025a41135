use Rattle.std.proofs.Common.{◌≡◌, sym, subst}
use Rattle.station_cli.proofs.Outcomes.{ends, low_status, quiet, unread}
use Rattle.station_cli.specs.Prelude.{EndsAs, Traffic}
use Rattle.station_cli.specs.declared.job.Job.{Job}
use Rattle.station_cli.specs.declared.job.Job.TheVariants.{CheckSite}
use Rattle.station_cli.proofs.running.run.Goals as goal

pub returns-in-CheckSite-clause-ends : goal.returns-in-CheckSite-clause-ends
returns-in-CheckSite-clause-ends g c =
    let input = g.R.Read.remaining c.args.input in
    let traffic = unread input (g.W.Write.contents c.args.output) (g.W.Write.contents c.check_site-status.new.output) in
    let old = g.E.Write.contents c.args.err.now in
    let new = g.E.Write.contents c.check_site-status.new.err in
    subst (λ (j : Job). EndsAs j traffic c.check_site-status.result old new) (sym c.in-CheckSite.is) (c.check_site-status.ensures input)

pub returns-in-CheckSite-clause-status : goal.returns-in-CheckSite-clause-status
returns-in-CheckSite-clause-status g c =
    let input = g.R.Read.remaining c.args.input in
    let traffic = unread input (g.W.Write.contents c.args.output) (g.W.Write.contents c.check_site-status.new.output) in
    let old = g.E.Write.contents c.args.err.now in
    let new = g.E.Write.contents c.check_site-status.new.err in
    low_status (CheckSite c.in-CheckSite.site c.in-CheckSite.old) traffic c.check_site-status.result old new (c.check_site-status.ensures input)

pub returns-in-CheckSite-clause-prints_nothing : goal.returns-in-CheckSite-clause-prints_nothing
returns-in-CheckSite-clause-prints_nothing g c =
    let input = g.R.Read.remaining c.args.input in
    let traffic = unread input (g.W.Write.contents c.args.output) (g.W.Write.contents c.check_site-status.new.output) in
    let old = g.E.Write.contents c.args.err.now in
    let new = g.E.Write.contents c.check_site-status.new.err in
    quiet (CheckSite c.in-CheckSite.site c.in-CheckSite.old) traffic c.check_site-status.result old new (c.check_site-status.ensures input)

pub returns-in_default-clause-ends : goal.returns-in_default-clause-ends
returns-in_default-clause-ends g c =
    let old = g.E.Write.contents c.args.err.now in
    let new = g.E.Write.contents c.finish.new.err in
    let done = c.outcome-done in
    let finished = c.finish.ensures in
    ends c.args.job.now (record {
      input_old = g.R.Read.remaining c.args.input;
      input_new = g.R.Read.remaining done.result.input;
      output_old = g.W.Write.contents c.args.output;
      output_new = g.W.Write.contents done.result.output;
    }) done.result.result c.finish.result old new done.ensures finished.status finished.prints_nothing finished.told
