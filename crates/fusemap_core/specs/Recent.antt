-- What was asked for last.
use Rattle.std.specs.Prelude.{List, ◌∷◌, take}

-- sixteen at most, this one before the others
abbrev pub with_first : {A : Type 0} → A → List A → List A
with_first x xs = take 16 (x ∷ xs)
