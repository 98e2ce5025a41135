use Rattle.std.proofs.Common.{[], ◌∷◌, IfOk, subst, sym, All}
use Rattle.std.specs.List.{AllByRecursion}
use Rattle.site_core.specs.Prelude.{IsSeatCaller, PoolsDisjoint, ownership_of, SiteValue}
use Rattle.office_laws.specs.Prelude.{IsSeat}
use Rattle.office_core.specs.Prelude.{KeepsPromises, calls_in, exchanges_in}
use Rattle.crash_laws.proofs.restarted.replay_text.Goals as goal

pub replay-requires : goal.replay-requires
replay-requires g c =
    subst (λ (site : SiteValue). All (λ asked. IsSeatCaller site asked.caller) c.args.requests.now) (sym c.site.ensures.same) c.requires

pub returns-clause-site : goal.returns-clause-site
returns-clause-site g c = c.site.ensures.is_text.is_site

pub returns-clause-apart : goal.returns-clause-apart
returns-clause-apart g c =
    subst (λ (site : SiteValue). IfOk c.replay.result (λ _. PoolsDisjoint (ownership_of site))) c.site.ensures.same c.replay.ensures.apart

pub returns-clause-seats : goal.returns-clause-seats
returns-clause-seats g c =
    subst (λ (site : SiteValue). IfOk c.replay.result (λ _. AllByRecursion (IsSeat (ownership_of site)) (calls_in site c.args.requests.now)))
    c.site.ensures.same c.replay.ensures.seats

pub returns-clause-run : goal.returns-clause-run
returns-clause-run g c =
    subst (λ (site : SiteValue). IfOk c.replay.result (λ replies. KeepsPromises g.K.Keep (site ∷ []) c.args.keep.now c.replay.new.keep
    (exchanges_in site c.args.requests.now replies.items))) c.site.ensures.same c.replay.ensures.run
