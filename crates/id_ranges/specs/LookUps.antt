-- Look-ups of serial numbers in a state that they are lent.
use Rattle.std.specs.Prelude.{Result, Err}
use Rattle.id_ranges.specs.declared.fault.RangeFault.{RangeFault}
use Rattle.id_ranges.specs.declared.fault.RangeFault.TheVariants as fault

-- what look-ups did to the state: each had its answer, or the last of them had none
abbrev pub Looked : {S A : Type 0} → (S → S → Type 0) → (S → S → Type 0) → S → S → Result A RangeFault → Type 0
Looked {S} looks fails old new (Err fault.Unread) = (before : S) × looks old before × fails before new
Looked {S} looks fails old new _ = looks old new
