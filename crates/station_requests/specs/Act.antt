-- The requests that take a device a step on, from what was read of a body.
use Rattle.std.specs.Prelude.{ℕ, List, [], ◌∷◌, codes, Option}
use Rattle.serde_json.specs.Data.{Data, object}
use Rattle.serde_json.specs.Find.{as_str, get}
use Rattle.text_core.specs.Prelude.{◌>>=◌, chip_of_text}
use Rattle.office_commands.specs.declared.command.Action.{Action}
use Rattle.office_commands.specs.declared.command.Request.{Request}
use Rattle.office_commands.specs.declared.command.Change.TheVariants.{Act}
use Rattle.station_requests.specs.Change.{request_for}
use Rattle.station_requests.specs.Digest.{named_members}

-- the named members that each such request has
abbrev pub act_members : List (List ℕ)
act_members = codes "chip" ∷ codes "nr" ∷ []

-- the request that a body asks for on a path: the device with its action, known by these members
unfoldable pub act_of : List ℕ → Data → Action → Data → Option Request
act_of path members action d = do
  chip ← get (codes "chip") d >>= as_str >>= chip_of_text
  request_for path members (Act chip action) d

-- the request of an action that asks for nothing but the chip
abbrev pub end_of : List ℕ → Action → Data → Option Request
end_of path action d = act_of path (object (named_members act_members d)) action d
