-- The requests about devices, from what was read of a body or a query.
use Rattle.std.specs.Prelude.{ℕ, List, [], ◌∷◌, ◌==◌, codes, if◌then◌else◌, length, map, Option, Some, None, option_and_then, option_map}
use Rattle.std.specs.Int.{from_be_bytes, w32}
use Rattle.std.specs.Result.{result_ok}
use Rattle.hex.specs.Hex.{decode_sized, encode_lower}
use Rattle.serde_json.specs.Data.{Data, array, object, string, put}
use Rattle.serde_json.specs.Find.{as_array, as_str, get}
use Rattle.sha2.specs.Sha256.{sha256}
use Rattle.text_core.specs.Prelude.{chip_of_text, digest_of_text, name_of_text, ◌>>=◌, all_of}
use Rattle.members.specs.Prelude.{json_items}
use Rattle.fuse_image.specs.Prelude.{blocks_of, bytes_of_block}
use Rattle.office_commands.specs.declared.new_device.NewDevice.{NewDevice}
use Rattle.office_commands.specs.declared.command.Request.{Request}
use Rattle.office_commands.specs.declared.command.Change.TheVariants.{RegisterDevice}
use Rattle.office_commands.specs.Prelude.{items_of}
use Rattle.station_requests.specs.Change.{request_for}
use Rattle.station_requests.specs.Digest.{named_members}
use Rattle.station_requests.specs.Query.{text_parameter}

-- the word of eight hexadecimal digits of either case, the highest first
abbrev pub word_of_text : List ℕ → Option ℕ
word_of_text text = option_map (from_be_bytes w32) (result_ok (decode_sized text 4))

-- the word of a JSON value that is a text of eight hexadecimal digits
abbrev pub word_of_data : Data → Option ℕ
word_of_data d = option_and_then word_of_text (as_str d)

-- the words of a block
abbrev pub block_in : Data → Option (List ℕ)
block_in d = option_map json_items (as_array d) >>= all_of word_of_data

-- a member that is an array of 1 to 4 blocks of 1 to 8 words
unfoldable pub blocks_member : List ℕ → Data → Option (List (List ℕ))
blocks_member name d = option_map json_items (get name d >>= as_array) >>= all_of block_in >>= blocks_of

-- the digest of a block's bytes
abbrev pub block_digest : List ℕ → Data
block_digest block = string (encode_lower (sha256 (bytes_of_block block)))

-- the named members of a registration but its blocks, as they were read
abbrev pub device_members : List (List ℕ)
device_members = codes "chip" ∷ codes "map" ∷ codes "nr" ∷ codes "order" ∷ []

-- the named members of a JSON value, and the digests of blocks among them
abbrev pub with_block_digests : List (List ℕ) → Data → List (List ℕ) → Data
with_block_digests names d blocks = object (put (codes "blocks") (array (items_of (map block_digest blocks))) (named_members names d))

-- the device of a JSON value, if its members are of their forms
unfoldable pub new_device_of : Data → Option NewDevice
new_device_of d = do
  chip ← get (codes "chip") d >>= as_str >>= chip_of_text
  order ← get (codes "order") d >>= as_str >>= name_of_text
  digest ← get (codes "map") d >>= as_str >>= digest_of_text
  blocks ← blocks_member (codes "blocks") d
  Some (record { chip = chip; order = order; map = digest; blocks = blocks })

-- the request that a body asks for: the device, known by the digests of its blocks too
unfoldable pub register_device_of : Data → Option Request
register_device_of d = do
  device ← new_device_of d
  request_for (codes "/v1/device") (with_block_digests device_members d device.blocks) (RegisterDevice device) d

-- the chip that a query gives
abbrev pub chip_parameter : List ℕ → Option (List ℕ)
chip_parameter query = text_parameter (codes "chip") query >>= chip_of_text

-- where a list of devices begins: at the first one where the text is empty, or behind a chip
abbrev pub after_of_text : List ℕ → Option (Option (List ℕ))
after_of_text text = if length text == 0 then Some None else option_map Some (chip_of_text text)

-- where the list begins that a query asks for
abbrev pub after_parameter : List ℕ → Option (Option (List ℕ))
after_parameter query = text_parameter (codes "after") query >>= after_of_text
