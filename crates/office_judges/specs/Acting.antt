-- What an action comes to by a device and its fuse map, before anything is written.
use Rattle.std.specs.Prelude.{List, Result, string_bytes, ℕ, ◌≡◌}
use Rattle.fusemap_core.specs.Prelude.{Map}
use Rattle.office_tables.specs.declared.rows.Device.{Device}
use Rattle.office_commands.specs.declared.command.Action.{Action}
use Rattle.office_commands.specs.declared.refusal.Refusal.{Refusal}
use Rattle.office_rules.specs.Prelude.{action_refusals, rule_of, Refusals}
use Rattle.office_rules.specs.declared.device_step.DeviceStep.{DeviceStep}
use Rattle.office_judges.specs.Judging.{IsUnlessRefused}
use Rattle.office_judges.specs.declared.act.Acted.{Acted}

-- the lowest of these refusals; or none of them holds, and it is this step with this body
abbrev pub IsActedUnless : Refusals → DeviceStep × List ℕ → Result Acted Refusal → Type 0
IsActedUnless against made acted =
    IsUnlessRefused against (λ (a : Acted). (a.step ≡ made.0) × (string_bytes a.body ≡ made.1)) acted

-- an action of a device: its lowest refusal, or what it makes of the device
abbrev pub IsActed : Action → Map → Device → Result Acted Refusal → Type 0
IsActed a m d acted = IsActedUnless (action_refusals a m d) ((rule_of a).does m d) acted

-- an action of a device that is in a state from which the action goes on: its lowest refusal, or what it makes of the device
abbrev pub IsActedOn : Action → Map → Device → Result Acted Refusal → Type 0
IsActedOn a m d acted = IsActedUnless ((rule_of a).refuses m d) ((rule_of a).does m d) acted
