-- The parameters of a query.
use Rattle.std.specs.Prelude.{ℕ, if◌then◌else◌, List, [], ◌∷◌, Option, Some, None}
use Rattle.std.specs.Str.{is_utf8}
use Rattle.text_core.specs.Prelude.{◌>>=◌}
use Rattle.http_frames.specs.Prelude.{parameters_named}

-- the value of a parameter that stands there exactly once
abbrev pub only_value : List (List ℕ) → Option (List ℕ)
only_value [] = None
only_value (value ∷ []) = Some value
only_value (value ∷ (other ∷ more)) = None

-- the value of the only parameter of a name, if it is text
abbrev pub text_parameter : List ℕ → List ℕ → Option (List ℕ)
text_parameter name query = only_value (parameters_named name query) >>= (λ value. if is_utf8 value then Some value else None)
