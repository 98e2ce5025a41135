-- The request for a device's identity, from what was read of a body.
use Rattle.std.specs.Prelude.{ℕ, ◌&&◌, nat_le, if◌then◌else◌, List, [], ◌∷◌, codes, length, Option, Some, None, option_map}
use Rattle.std.specs.Result.{result_ok}
use Rattle.hex.specs.Hex.{decode_of}
use Rattle.sha2.specs.Sha256.{sha256}
use Rattle.serde_json.specs.Data.{Data, object}
use Rattle.serde_json.specs.Find.{as_str, get}
use Rattle.text_core.specs.Prelude.{◌>>=◌, chip_of_text}
use Rattle.office_commands.specs.declared.new_identity.NewIdentity.{NewIdentity}
use Rattle.office_commands.specs.declared.command.Request.{Request}
use Rattle.office_commands.specs.declared.command.Change.TheVariants.{Identify}
use Rattle.station_requests.specs.Change.{request_for}
use Rattle.station_requests.specs.Digest.{named_members}

-- SHA-256 of a key's bytes, by its text: two hexadecimal digits of either case for each byte, of 1 to 1,024 bytes
abbrev pub key_of_text : List ℕ → Option (List ℕ)
key_of_text text = if nat_le 2 (length text) && nat_le (length text) 2048 then option_map sha256 (result_ok (decode_of text)) else None

-- the identity of a JSON value, if its members are of their forms
unfoldable pub new_identity_of : Data → Option NewIdentity
new_identity_of d = do
  chip ← get (codes "chip") d >>= as_str >>= chip_of_text
  text ← get (codes "public_key") d >>= as_str
  key ← key_of_text text
  Some (record { chip = chip; key = key })

-- the named members of a request for an identity
abbrev pub identity_members : List (List ℕ)
identity_members = codes "chip" ∷ codes "nr" ∷ codes "public_key" ∷ []

-- the request that a body asks for: the identity, known by its named members
unfoldable pub identify_of : Data → Option Request
identify_of d = do
  identity ← new_identity_of d
  request_for (codes "/v1/identity") (object (named_members identity_members d)) (Identify identity) d
