-- The requests that are kept aside (the API's page, "A late copy").
use Rattle.std.specs.Prelude.{ℕ, ◌-◌, ◌==◌, not, List, [], ◌∷◌, ◌++◌, drop, filter, length}

-- the last 15 of these, so that one more makes 16
abbrev pub newest_of : List ℕ → List ℕ
newest_of requests = drop (length requests - 15) requests

-- those that are kept aside once this one is too: it comes last, and once
abbrev pub aside_with : ℕ → List ℕ → List ℕ
aside_with request aside = newest_of (filter (λ kept. not (kept == request)) aside) ++ request ∷ []
