-- Readers of values, by what they make of a value.
use Rattle.std.specs.Prelude.{◌≡◌, Option}
use Rattle.std.specs.Fn.{FnReturnsAt, Shared}
use denote.Ref.{Bor}

-- `read` makes of each value what `item_in` makes of it
abbrev pub ReadsItems : {V F T : Type 0} → Shared F (Bor V × Unit {0}) (Option T) → F → (V → Option T) → Type 0
ReadsItems {V} {F} {T} calls read item_in =
    (value : V) (item : Option T) → FnReturnsAt calls read value item → item ≡ item_in value
