-- Steps that may give nothing.
use Rattle.std.specs.Prelude.{ℕ, Bool, ◌&&◌, nat_le, List, [], ◌∷◌, length, Option, None, Some, if◌then◌else◌, option_map, option_and_then}

infixl 10 ◌>>=◌
-- what f gives of what the step before gave, as `?` goes on
abbrev pub ◌>>=◌ : {A B : Type 0} → Option A → (A → Option B) → Option B
o >>= f = option_and_then f o

-- what f gives of each element, if it gives something of each
abbrev pub all_of : {A B : Type 0} → (A → Option B) → List A → Option (List B)
all_of f [] = Some []
all_of f (x ∷ xs) = f x >>= (λ y. option_map (λ ys. y ∷ ys) (all_of f xs))

-- a list, if its length lies in a range
abbrev pub list_of_length : {A : Type 0} → ℕ → ℕ → List A → Option (List A)
list_of_length least greatest xs =
    if nat_le least (length xs) && nat_le (length xs) greatest then Some xs else None

-- what the first condition that holds tells; each condition comes with what it tells
abbrev pub first_that_holds : {A : Type 0} → List (Bool × A) → Option A
first_that_holds [] = None
first_that_holds (c ∷ cs) = if c.0 then Some c.1 else first_that_holds cs
