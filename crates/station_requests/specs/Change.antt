-- The requests for changes, from what was read of a body.
use Rattle.std.specs.Prelude.{ℕ, List, codes, Option, Some}
use Rattle.serde_json.specs.Data.{Data}
use Rattle.text_core.specs.Prelude.{◌>>=◌}
use Rattle.members.specs.Prelude.{whole_member}
use Rattle.office_commands.specs.Prelude.{largest_whole}
use Rattle.office_commands.specs.declared.command.Change.{Change}
use Rattle.office_commands.specs.declared.command.Command.TheVariants as command
use Rattle.office_commands.specs.declared.command.Request.{Request}
use Rattle.station_requests.specs.Digest.{request_digest}

-- the number of a request: the member `nr` of its body
abbrev pub number_member : Data → Option ℕ
number_member d = whole_member (codes "nr") 1 largest_whole d

-- the request for a change that a body asks for on a path: its number, its digest by these members, and the change
unfoldable pub request_for : List ℕ → Data → Change → Data → Option Request
request_for path members change d = do
  number ← number_member d
  Some (record { number = number; digest = request_digest path members; command = command.Change change })
