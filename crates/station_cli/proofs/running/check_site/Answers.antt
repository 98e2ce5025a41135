use Rattle.station_cli.proofs.Outcomes.{checked_ends, failed_ends, unread}
use Rattle.station_cli.specs.Prelude.{Traffic}
use Rattle.station_cli.proofs.running.check_site.Goals as goal

pub returns-in-Ok : goal.returns-in-Ok
returns-in-Ok g c = λ bytes.
    let told = c.tell_checked.ensures in
    let traffic : Traffic = unread bytes (g.W.Write.contents c.args.output.now) (g.W.Write.contents c.tell_checked.new.output) in
    checked_ends c.args.site.now c.args.old.now traffic c.in-Ok.checked c.tell_checked.result (g.E.Write.contents c.args.err.now)
    (g.E.Write.contents c.tell_checked.new.err) c.in-Ok.ensures.told told.site told.fault

pub returns-in-Err : goal.returns-in-Err
returns-in-Err g c = λ bytes.
    let traffic : Traffic = unread bytes (g.W.Write.contents c.args.output.now) (g.W.Write.contents c.args.output.now) in
    failed_ends c.args.site.now c.args.old.now traffic c.in-Err.failure c.finish.result (g.E.Write.contents c.args.err.now)
    (g.E.Write.contents c.finish.new.err) c.finish.ensures.status c.in-Err.ensures.failed c.finish.ensures.told
