-- A list at the front of an array gives the array back.
use Rattle.std.specs.Prelude.{◌≡◌, ℕ, ◌-◌, List, ◌++◌, length, take, replicate}
use Rattle.std.proofs.Common.{sym, ap, ◌∙◌, arith}
use Rattle.std.proofs.lemmas.List.{length-take-le, take-append-drop}
use Rattle.text_core.specs.InPlace.{AreAtFront}

-- the elements at the front of an array are as many as `len` says
pub length_again : {X : Type 0} (size : ℕ) (blank : X) (array : List X) (len : ℕ) → AreAtFront size blank array len → length (take len array) ≡ len
length_again size blank array len h = length-take-le len array (omega (arith, h.room, h.within))

-- the elements at the front of an array, with blanks behind them, are the array again
pub array_again : {X : Type 0} (size : ℕ) (blank : X) (array : List X) (len : ℕ) → AreAtFront size blank array len
    → take len array ++ replicate (size - length (take len array)) blank ≡ array
array_again size blank array len h =
    ap (λ n. take len array ++ replicate (size - n) blank) (length_again size blank array len h)
    ∙ (ap (λ rest. take len array ++ rest) (sym h.blanks) ∙ take-append-drop len array)
