-- The request that hands in a read-back, from what was read of a body.
use Rattle.std.specs.Prelude.{codes, Option}
use Rattle.serde_json.specs.Data.{Data}
use Rattle.text_core.specs.Prelude.{◌>>=◌}
use Rattle.office_commands.specs.declared.command.Action.TheVariants.{ReadBack}
use Rattle.office_commands.specs.declared.command.Request.{Request}
use Rattle.station_requests.specs.Act.{act_members, act_of}
use Rattle.station_requests.specs.Device.{blocks_member, with_block_digests}

-- the request that a body asks for, if its blocks are of their form: it is known by the digests of its blocks
unfoldable pub read_back_of : Data → Option Request
read_back_of d = do
  blocks ← blocks_member (codes "blocks") d
  act_of (codes "/v1/readback") (with_block_digests act_members d blocks) (ReadBack blocks) d
