use Rattle.std.proofs.Common.{◌≡◌, ◌⊎◌, Option, IfErr, inl, inr, rules, sym, subst}
use Rattle.station_cli.proofs.Outcomes.{no_memory_of_site, site_job_fails}
use Rattle.station_cli.specs.Prelude.{IsBeforeStream, IsOfSite, IsOfStore}
use Rattle.station_cli.specs.declared.failure.Failure.{Failure}
use Rattle.station_cli.specs.declared.failure.Failure.TheVariants.{NoMemory}
use Rattle.station_cli.specs.declared.job.StoreName.{StoreName}
use Rattle.station_cli.proofs.running.served_by.Goals as goal

pub returns-in-Some-clause-failed : goal.returns-in-Some-clause-failed
returns-in-Some-clause-failed g c =
    let ends = c.replay_stored-done.ensures in
    let served = c.replay_stored-done.result.result in
    let site = c.args.site.now in
    let Behind : Failure → Type 0 = λ failure. (failure ≡ NoMemory) ⊎ IsOfStore failure in
    let Before : Failure → Type 0 = λ failure. IsOfSite site failure ⊎ IsOfStore failure in
    subst (λ (o : Option StoreName). IfErr served (IsBeforeStream site o)) (sym c.in-Some.is)
    (site_job_fails (λ b. b.items) _ site _ served Behind Before (search rules) (λ failure first. inl first)
    (λ failure next. elim next [ inl memory ↦ inl (no_memory_of_site site failure memory) | inr other ↦ inr other ])
    ends.unread ends.no_site ends.failed)

pub returns-in-None-clause-failed : goal.returns-in-None-clause-failed
returns-in-None-clause-failed g c =
    let ends = c.replay.ensures in
    let site = c.args.site.now in
    subst (λ (o : Option StoreName). IfErr c.replay.result (IsBeforeStream site o)) (sym c.in-None.is)
    (site_job_fails (λ b. b.items) _ site _ c.replay.result (λ failure. failure ≡ NoMemory) (IsOfSite site) (search rules) (λ failure first. first)
    (no_memory_of_site site) ends.unread ends.no_site ends.failed)
