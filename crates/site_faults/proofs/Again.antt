-- What is there already, by tests that are the same.
use mathlib.Core.Path.{fun_ext}
use Rattle.std.proofs.Common.{◌≡◌, Bool, List, ap}
use Rattle.site_faults.specs.Prelude.{first_again}

-- an element that is there already, by a test that is the same
pub first_again-alike : {A : Type 0} (one other : A → A → Bool) → ((x y : A) → one x y ≡ other x y) → (seen xs : List A)
    → first_again one seen xs ≡ first_again other seen xs
first_again-alike {A} one other same seen xs = ap (λ (goes_with : A → A → Bool). first_again goes_with seen xs) (fun_ext (λ x. fun_ext (λ y. same x y)))
