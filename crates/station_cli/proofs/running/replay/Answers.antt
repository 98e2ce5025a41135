use Rattle.std.proofs.Common.{◌≡◌, Err, IfErr, Result, rules, sym, subst}
use Rattle.http_frames.specs.declared.serving.Served.{Served}
use Rattle.site_core.specs.Prelude.{ownership_of, SiteValue}
use Rattle.office_laws.proofs.Grown.{growth_itself}
use Rattle.office_tables.specs.Prelude.{no_rows}
use Rattle.station_cli.specs.Prelude.{Replays}
use Rattle.station_cli.specs.declared.failure.Failure.{Failure}
use Rattle.station_cli.proofs.Books.{books_read, books_unread}
use Rattle.station_cli.proofs.running.replay.Goals as goal

pub returns-in_err-site-clause-failed : goal.returns-in_err-site-clause-failed
returns-in_err-site-clause-failed g c =
    let result = c.from_residual.result in
    let failure = c.in_err-site.field-0.0 in
    let is : result ≡ Err failure = search rules in
    let Fails : Result Served Failure → Type 0 = λ r. IfErr r (λ f. f ≡ Failure.NoMemory) in
    books_unread c.args.name (λ b. b.items) c.args.file failure (λ _ _. Fails result) c.in_err-site.ensures.read
    (λ memory _ _. subst Fails (sym is) memory)

pub returns-clause-served : goal.returns-clause-served
returns-clause-served g c =
    let left_old = g.R.Source.left c.args.reader.now in
    let left_new = g.R.Source.left c.serve_stream.new.reader in
    let written_old = g.W.Drain.written c.args.writer.now in
    let written_new = g.W.Drain.written c.serve_stream.new.writer in
    let ended = c.serve_stream.result in
    let run = c.serve_stream.ensures.run in
    let owners = ownership_of c.site-2.result.now in
    let led = run.3 tt no_rows (λ _. rw c.over-keep.ensures c.new.ensures) in
    let replayed : Replays c.site-2.result.now no_rows left_old left_new written_old written_new ended =
    (run.0, run.1, run.2, led.0, led.1.run, λ sound. led.1.books owners (growth_itself owners) sound) in
    books_read c.args.name (λ b. b.items) c.args.file c.in_ok-site.site
    (λ t. Replays t.site no_rows left_old left_new written_old written_new ended) c.in_ok-site.ensures.read
    (subst (λ (site : SiteValue). Replays site no_rows left_old left_new written_old written_new ended) c.site-2.ensures.same replayed)

pub returns-clause-ended : goal.returns-clause-ended
returns-clause-ended g c = let run = c.serve_stream.ensures.run in (run.0, run.1)
