-- The JSON texts that answer a plan and a read-back.
use Rattle.std.specs.Prelude.{ℕ, List, [], ◌∷◌, codes}
use Rattle.std.specs.FinMap as map
use Rattle.serde_json.specs.Data.{Data, object, string}
use Rattle.serde_json.specs.Written.{compact_text}
use Rattle.fusemap_core.specs.declared.field.Field.{Field}
use Rattle.fusemap_core.specs.Prelude.{Map}
use Rattle.fuse_image.specs.declared.image.Image.{Image}
use Rattle.fuse_image.specs.declared.pending.Pending.{Pending}
use Rattle.office_tables.specs.Prelude.{state_row, outcome_text}
use Rattle.office_tables.specs.declared.rows.DeviceState.{DeviceState}
use Rattle.office_tables.specs.declared.rows.Outcome.{Outcome}
use Rattle.office_commands.specs.DeviceReplies.{batch_data}
use Rattle.office_commands.specs.Replies.{members_of}

-- what a plan is: both batches, the keys of the first, and where the device stands after it
abbrev pub plan_data : List Field → Pending → DeviceState → Data
plan_data fields work state = object (members_of (
    (codes "batch1", batch_data fields work.first work.keys) ∷
    (codes "batch2", batch_data fields work.second map.empty) ∷
    (codes "state", string (state_row state).text) ∷ []))

-- the JSON text of a plan, by the device's fuse map
unfoldable pub plan_body : Map → Pending → DeviceState → List ℕ
plan_body m work state = compact_text (plan_data m.fields work state)

-- what a read-back came to, the rest of its batch, and where the device stands after it
abbrev pub outcome_data : List Field → Outcome → Image → DeviceState → Data
outcome_data fields outcome rest state = object (members_of (
    (codes "outcome", string (outcome_text outcome)) ∷
    (codes "rest", batch_data fields rest.burnt rest.keys) ∷
    (codes "state", string (state_row state).text) ∷ []))

-- the JSON text of what a read-back came to, by the device's fuse map
unfoldable pub outcome_body : Map → Outcome → Image → DeviceState → List ℕ
outcome_body m outcome rest state = compact_text (outcome_data m.fields outcome rest state)
