-- Machines that answer requests, and requests that are answered in turn.
use Rattle.std.specs.Prelude.{◌≡◌, List, [], ◌∷◌}

-- from one state, a request may be answered so, and lead to another state
abbrev pub Machine : Type 0 → Type 0 → Type 0 → Type 1
Machine S R A = S → R → A → S → Type 0

-- these requests were answered in turn, each by a step of the machine
abbrev pub Runs : {S R A : Type 0} → Machine S R A → S → List (R × A) → S → Type 0
Runs step old [] new = new ≡ old
Runs {S = S} step old (exchange ∷ exchanges) new =
    (middle : S) × step old exchange.0 exchange.1 middle × Runs step middle exchanges new
