-- What a call gives that may run out of memory.
use Rattle.std.specs.Prelude.{◌≡◌, ◌⊎◌, Result, Ok, Err}

-- `r.map(f)`
abbrev pub result_map : {A B E : Type 0} → (A → B) → Result A E → Result B E
result_map f (Ok x) = Ok (f x)
result_map f (Err e) = Err e

-- `r.and_then(f)`
abbrev pub result_and_then : {A B E : Type 0} → (A → Result B E) → Result A E → Result B E
result_and_then f (Ok x) = f x
result_and_then f (Err e) = Err e

-- the result is the wanted one, unless it is this error, which stands for want of memory
abbrev pub GivesUnless : {T E : Type 0} → E → Result T E → Result T E → Type 0
GivesUnless out result wanted = (result ≡ wanted) ⊎ (result ≡ Err out)
