-- The requests about fuse maps, from what was read of a body.
use Rattle.std.specs.Prelude.{ℕ, List, [], ◌∷◌, codes, Option}
use Rattle.serde_json.specs.Data.{Data, object}
use Rattle.serde_json.specs.Find.{as_str, get}
use Rattle.text_core.specs.Prelude.{◌>>=◌}
use Rattle.office_commands.specs.declared.command.Request.{Request}
use Rattle.office_commands.specs.declared.command.Change.TheVariants.{ImportMap}
use Rattle.station_requests.specs.Change.{request_for}
use Rattle.station_requests.specs.Digest.{named_members}

-- the named members of a map's import
abbrev pub map_members : List (List ℕ)
map_members = codes "nr" ∷ codes "text" ∷ []

-- the request that a body asks for: the map's text, known by its named members
unfoldable pub import_map_of : Data → Option Request
import_map_of d = do
  text ← get (codes "text") d >>= as_str
  request_for (codes "/v1/map") (object (named_members map_members d)) (ImportMap text) d
