-- Names of stores.
use Rattle.std.specs.Prelude.{◌≡◌, ◌⊎◌, ℕ, List, [], ◌++◌, codes}

-- a path that is opened as no file
abbrev pub NamesNoFile : List ℕ → Type 0
NamesNoFile path =
    (path ≡ []) ⊎ (path ≡ codes ":memory:") ⊎ ((rest : List ℕ) × (path ≡ codes "file:" ++ rest))
