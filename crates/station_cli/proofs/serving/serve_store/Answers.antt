use Rattle.std.proofs.Common.{◌≡◌, ◌⊎◌, ap, inl, inr}
use Rattle.station_cli.specs.Prelude.{IsOfPort, IsOfStore}
use Rattle.station_cli.specs.declared.failure.Failure.{Failure}
use Rattle.station_cli.specs.declared.failure.Failure.TheVariants.{NoMemory}
use Rattle.station_cli.proofs.Books.{failing}
use Rattle.station_cli.proofs.Leading.{leads_for}
use Rattle.std.proofs.Common.{Err}
use Rattle.station_cli.proofs.serving.serve_store.Goals as goal

pub returns-in-Err-clause-books : goal.returns-in-Err-clause-books
returns-in-Err-clause-books g c = (ap Err c.store_failure.ensures, c.in-Err.ensures.refused)

pub returns-in-Err-clause-failed : goal.returns-in-Err-clause-failed
returns-in-Err-clause-failed g c = inr (inl (c.in-Err.refused.fault, c.store_failure.ensures))

pub returns-clause-failed : goal.returns-clause-failed
returns-clause-failed g c =
    failing c.serve_counted-keep.result.0 IsOfPort (λ failure. (failure ≡ NoMemory) ⊎ IsOfStore failure ⊎ IsOfPort failure) (λ failure port. inr (inr port))
    c.serve_counted-keep.ensures.failed

pub serve_counted-keep-requires-clause-limit : goal.serve_counted-keep-requires-clause-limit
serve_counted-keep-requires-clause-limit g c = c.in-Ok.ensures.opened.limit

pub returns-clause-books : goal.returns-clause-books
returns-clause-books g c = record {
  opened = c.in-Ok.keep;
  last = c.serve_counted-keep.result.1;
  opens = c.in-Ok.ensures.opened;
  leads = leads_for c.site.ensures.same c.serve_counted-keep.ensures.reaches;
  was_honest = c.serve_counted-keep.ensures.was_honest;
  leaves = c.close.ensures;
}
