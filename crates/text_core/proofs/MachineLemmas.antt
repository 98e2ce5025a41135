-- Requests that are answered in turn, some after others.
use Rattle.std.proofs.Common.{List, [], ◌∷◌, ◌++◌, subst}
use Rattle.text_core.specs.Prelude.{Machine, Runs}

-- some requests, and then others
pub runs_both : {S R A : Type 0} (step : Machine S R A) (old : S) (some : List (R × A)) (middle : S) (others : List (R × A)) (new : S)
    → Runs step old some middle → Runs step middle others new → Runs step old (some ++ others) new
runs_both step old [] middle others new first second = subst (λ s. Runs step s others new) first second
runs_both step old (exchange ∷ exchanges) middle others new first second =
    (first.0, first.1, runs_both step first.0 exchanges middle others new first.2 second)
