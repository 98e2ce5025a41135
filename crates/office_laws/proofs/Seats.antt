-- Exchanges of the seats of one site, one more at a time.
use Rattle.std.proofs.Common.{List, [], ◌∷◌, ◌++◌, refl}
use Rattle.std.specs.List.{AllByRecursion}
use Rattle.text_core.proofs.MachineLemmas.{runs_both}
use Rattle.site_core.specs.Prelude.{PoolsDisjoint, Ownership}
use Rattle.office_tables.specs.Prelude.{Tables}
use Rattle.office_laws.specs.Prelude.{Call, Exchange, IsRun, Passes, AreSeats, IsSeat}
use Rattle.office_laws.proofs.Grown.{growth_itself}

abbrev pub IsSeatOf : Ownership → Call → Type 0
IsSeatOf site c = PoolsDisjoint site × IsSeat site c

pub all_seats : (site : Ownership) (cs : List Call) → AllByRecursion (IsSeatOf site) cs
    → AreSeats site cs site
all_seats site [] all = growth_itself site
all_seats site (c ∷ cs) all = (site, growth_itself site, all.0.0, all.0.1, all_seats site cs all.1)

pub run_more : (xs : List Exchange) (x : Exchange) (t mid t2 : Tables) → IsRun xs t mid
    → Passes mid x.0 x.1 t2 → IsRun (xs ++ x ∷ []) t t2
run_more xs x t mid t2 run passes = runs_both Passes t xs mid (x ∷ []) t2 run (t2, passes, refl)

pub seats_joined_more : (site : Ownership) (cs : List Call) (c : Call)
    → AllByRecursion (IsSeatOf site) cs → IsSeatOf site c
    → AllByRecursion (IsSeatOf site) (cs ++ c ∷ [])
seats_joined_more site [] c all is = (is, tt)
seats_joined_more site (d ∷ ds) c all is = (all.0, seats_joined_more site ds c all.1 is)
