use Rattle.std.proofs.Common.{◌≡◌, ◌⊎◌, inl, inr, rules, sym, subst}
use Rattle.station_cli.proofs.Outcomes.{check_comes, no_memory_of_site, served_comes, site_job_fails, stream_comes, unread}
use Rattle.station_cli.specs.Prelude.{ComesTo, IsBeforeStream, IsDone, IsOfJob, IsOfPort, IsOfStore, Traffic}
use Rattle.station_cli.specs.declared.failure.Failure.{Failure}
use Rattle.station_cli.specs.declared.failure.Failure.TheVariants.{NoMemory}
use Rattle.station_cli.specs.declared.job.Job.{Job}
use Rattle.station_cli.specs.declared.job.Job.TheVariants.{CheckMap, Replay, Serve}
use Rattle.station_cli.proofs.running.outcome.Goals as goal

pub returns-in-Serve : goal.returns-in-Serve
returns-in-Serve g c =
    let ends = c.serve_site-done.ensures in
    let words = c.in-Serve in
    let served = c.serve_site-done.result.result in
    let input = g.R.Read.remaining c.args.input in
    let traffic : Traffic = unread input (g.W.Write.contents c.args.output) (g.W.Write.contents c.serve_site-done.new.output) in
    let job : Job = Serve words.site words.store words.port words.connections in
    let Behind : Failure → Type 0 = λ failure. (failure ≡ NoMemory) ⊎ IsOfStore failure ⊎ IsOfPort failure in
    subst (λ (j : Job). ComesTo j traffic c.result_of.result) (sym words.is)
    (served_comes served c.result_of.result (IsDone job traffic) (IsOfJob job traffic) c.result_of.ensures ends.printed
    (site_job_fails (λ b. b.items) _ words.site _ served Behind (IsOfJob job traffic) (search rules) (λ failure first. inl first)
    (λ failure next. elim next [ inl memory ↦ inl (no_memory_of_site words.site failure memory) | inr other ↦ inr other ])
    ends.unread ends.no_site ends.failed))

pub returns-in-Replay : goal.returns-in-Replay
returns-in-Replay g c =
    let ends = c.served_by-served.ensures in
    let result = c.result_of_stream.result in
    let words = c.in-Replay in
    let traffic : Traffic = record {
      input_old = g.R.Read.remaining c.args.input;
      input_new = g.R.Read.remaining c.into_inner.result;
      output_old = g.W.Write.contents c.args.output;
      output_new = g.W.Write.contents c.into_inner-in-Replay.result;
    } in
    let ended =
    rw (c.new-reader.ensures.inner, c.new-writer.ensures.inner, ← c.into_inner.ensures, ← c.into_inner-in-Replay.ensures) at ends.ended in
    subst (λ (j : Job). ComesTo j traffic result) (sym words.is)
    (stream_comes traffic c.served_by-served.result result (IsBeforeStream words.site words.store) c.result_of_stream.ensures ends.failed ended)

pub returns-in-CheckMap : goal.returns-in-CheckMap
returns-in-CheckMap g c =
    let ends = c.check_map.ensures in
    let input = g.R.Read.remaining c.args.input in
    let traffic : Traffic = unread input (g.W.Write.contents c.args.output) (g.W.Write.contents c.check_map.new.output) in
    subst (λ (j : Job). ComesTo j traffic c.check_map.result) (sym c.in-CheckMap.is)
    (check_comes (λ b. b.items) _ _ traffic _ c.check_map.result (search rules) ends.unread ends.no_map ends.map)
