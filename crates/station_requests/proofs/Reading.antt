-- The refusal of a step is that of the whole.
use Rattle.std.proofs.Common.{◌≡◌, ◌⊎◌, ◌∙◌, inl, inr, sym, Option, None, Result, Ok, Err, IsErrAnd}
use Rattle.text_core.specs.Prelude.{result_map}
use Rattle.office_commands.specs.declared.refusal.Refusal.{Refusal}
use Rattle.office_commands.specs.declared.refusal.Refusal.TheVariants.{BadMember}
use Rattle.office_commands.specs.Prelude.{unkept}
use Rattle.station_requests.specs.Prelude.{ReadsAs}

at_step : {A C : Type 0} {w : Option A} {v : Option C} {e y : Refusal} → y ≡ e → (w ≡ None → v ≡ None)
    → ((None ≡ w) × (e ≡ BadMember)) ⊎ (e ≡ unkept) → ((None ≡ v) × (y ≡ BadMember)) ⊎ (y ≡ unkept)
at_step same none (inl nothing) = inl (sym (none (sym nothing.0)), same ∙ nothing.1)
at_step same none (inr out) = inr (same ∙ out)

-- a reader passes the refusal of a step on: without the step there is nothing to be read
pub stopped : {A B C : Type 0} {w : Option A} {v : Option C} {e : Refusal} (f : B → C) (r : Result B Refusal) → IsErrAnd r (λ y. y ≡ e)
    → (w ≡ None → v ≡ None) → ((None ≡ w) × (e ≡ BadMember)) ⊎ (e ≡ unkept) → ReadsAs (result_map f r) v
stopped f (Ok x) is none step = absurd is
stopped f (Err y) is none step = at_step is none step
