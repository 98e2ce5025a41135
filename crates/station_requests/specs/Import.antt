-- The request that imports serial numbers, from what was read of a body.
use Rattle.std.specs.Prelude.{ℕ, List, [], ◌∷◌, codes, Option, Some}
use Rattle.serde_json.specs.Data.{Data, object}
use Rattle.serde_json.specs.Find.{as_str, get}
use Rattle.text_core.specs.Prelude.{◌>>=◌, name_of_text}
use Rattle.id_ranges.specs.Prelude.{import_rows_of}
use Rattle.office_commands.specs.declared.new_identity.NewImport.{NewImport}
use Rattle.office_commands.specs.declared.command.Request.{Request}
use Rattle.office_commands.specs.declared.command.Change.TheVariants.{Import}
use Rattle.station_requests.specs.Change.{request_for}
use Rattle.station_requests.specs.Digest.{named_members}

-- the import of a JSON value, if its members are of their forms: its text is one of rows, whether or not each has a serial number
unfoldable pub new_import_of : Data → Option NewImport
new_import_of d = do
  issuer ← get (codes "issuer") d >>= as_str >>= name_of_text
  text ← get (codes "csv") d >>= as_str
  rows ← import_rows_of text
  Some (record { issuer = issuer; rows = rows })

-- the named members of an import
abbrev pub import_members : List (List ℕ)
import_members = codes "csv" ∷ codes "issuer" ∷ codes "nr" ∷ []

-- the request that a body asks for: the import, known by its named members
unfoldable pub import_of : Data → Option Request
import_of d = do
  import ← new_import_of d
  request_for (codes "/v1/import") (object (named_members import_members d)) (Import import) d
