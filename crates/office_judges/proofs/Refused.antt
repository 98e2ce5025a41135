-- What a step of a judgement refuses, the judgement refuses.
use Rattle.std.proofs.Common.{◌≡◌, ◌⊎◌, inl, inr, Option, Result, Some, None, Ok, Err, refl}
use Rattle.text_core.specs.Prelude.{first_that_holds}
use Rattle.office_commands.specs.declared.refusal.Refusal.{Refusal}
use Rattle.office_commands.specs.Prelude.{unkept}
use Rattle.office_rules.specs.Prelude.{unless_refused, Refusals}
use Rattle.office_judges.specs.Prelude.{IsUnlessRefused}

pub refuses : {found all : Option Refusal} {e : Refusal} → (found ≡ Some e → all ≡ Some e)
    → (found ≡ Some e) ⊎ (e ≡ unkept) → (all ≡ Some e) ⊎ (e ≡ unkept)
refuses more (inl holds) = inl (more holds)
refuses more (inr out) = inr out

-- a value or the refusal that holds of it is such a judgement
pub judged_as : {A : Type 0} (against : Refusals) (x : A) (judged : Result A Refusal)
    → judged ≡ unless_refused (first_that_holds against) x → IsUnlessRefused against (λ y. y ≡ x) judged
judged_as {A = A} against x judged is = by (first_that_holds against) judged refl is
  where
    by : (found : Option Refusal) (judged : Result A Refusal) → first_that_holds against ≡ found
        → judged ≡ unless_refused found x → IsUnlessRefused against (λ y. y ≡ x) judged
    by None (Ok y) e is = (e, cc)
    by None (Err r) e is = cc
    by (Some other) (Ok y) e is = cc
    by (Some other) (Err r) e is = let same : other ≡ r = cc in inl (rw same at e)
