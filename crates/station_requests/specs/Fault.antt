-- What the reader of a body's members gives.
use Rattle.std.specs.Prelude.{◌≡◌, ◌⊎◌, Option, Some, None, Result, Ok, Err}
use Rattle.office_commands.specs.declared.refusal.Refusal.{Refusal}
use Rattle.office_commands.specs.declared.refusal.Refusal.TheVariants.{BadMember}
use Rattle.office_commands.specs.Prelude.{unkept}

-- The value is what the definition reads, and the refusal is `BadMember` where it reads nothing.
-- Memory may run out in place of either
abbrev pub ReadsAs : {T : Type 0} → Result T Refusal → Option T → Type 0
ReadsAs (Ok found) wanted = Some found ≡ wanted
ReadsAs (Err refusal) wanted = ((None ≡ wanted) × (refusal ≡ BadMember)) ⊎ (refusal ≡ unkept)
