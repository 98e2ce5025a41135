-- The fault of a step is that of the whole.
use Rattle.std.proofs.Common.{◌≡◌, ◌⊎◌, ◌∙◌, inl, inr, sym, Option, None, Result, Ok, Err, IsErrAnd}
use Rattle.text_core.specs.Prelude.{result_map}
use Rattle.seat_ask.specs.declared.reading.TextFault.{TextFault}
use Rattle.seat_ask.specs.declared.reading.TextFault.TheVariants.{NoMemory, OtherForm}
use Rattle.seat_ask.specs.Prelude.{GivesUnlessMemory}

at_step : {A C : Type 0} {w : Option A} {v : Option C} {e y : TextFault} → y ≡ e → (w ≡ None → v ≡ None)
    → ((None ≡ w) × (e ≡ OtherForm)) ⊎ (e ≡ NoMemory) → ((None ≡ v) × (y ≡ OtherForm)) ⊎ (y ≡ NoMemory)
at_step same none (inl nothing) = inl (sym (none (sym nothing.0)), same ∙ nothing.1)
at_step same none (inr out) = inr (same ∙ out)

-- a reader passes the fault of a step on: without the step there is nothing to be read
pub stopped : {A B C : Type 0} {w : Option A} {v : Option C} {e : TextFault} (f : B → C) (r : Result B TextFault) → IsErrAnd r (λ y. y ≡ e)
    → (w ≡ None → v ≡ None) → ((None ≡ w) × (e ≡ OtherForm)) ⊎ (e ≡ NoMemory) → GivesUnlessMemory (result_map f r) v
stopped f (Ok x) is none step = absurd is
stopped f (Err y) is none step = at_step is none step
