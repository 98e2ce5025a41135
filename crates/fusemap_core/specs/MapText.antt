-- The fuse map that a text is.
use Rattle.std.specs.Prelude.{◌≡◌, ℕ, ◌≤◌, nat_lt, List, length, codes, Option, Some, Result, Err, ok_or, false, if◌then◌else◌}
use Rattle.std.specs.Option.{option_map_or}
use Rattle.std.specs.Result.{result_ok}
use Rattle.toml.specs.Data.{Data, as_bool, get}
use Rattle.text_core.specs.Prelude.{result_and_then, ◌>>=◌, all_of, list_of_length}
use Rattle.members.specs.Prelude.{document_of, if_there, items_in, name_in, whole_within}
use Rattle.fusemap_core.specs.declared.fault.MapFault.{MapFault}
use Rattle.fusemap_core.specs.declared.fault.MapFault.TheVariants.{NotToml, BadMember}
use Rattle.fusemap_core.specs.declared.field.Field.{Field}
use Rattle.fusemap_core.specs.Map.{Map, IsMap}
use Rattle.fusemap_core.specs.MapFaults.{map_or_fault}

-- the greatest whole number of TOML, 2^63 - 1
abbrev pub largest_integer : ℕ
largest_integer = 9223372036854775807

-- the words of a block
abbrev pub words_in : Data → Option ℕ
words_in d = get (codes "words") d >>= whole_within 1 8

-- a field
unfoldable pub field_in : Data → Option Field
field_in d = do
  name ← get (codes "name") d >>= name_in
  block ← get (codes "block") d >>= whole_within 0 largest_integer
  bit ← get (codes "bit") d >>= whole_within 0 largest_integer
  count ← get (codes "count") d >>= whole_within 1 largest_integer
  write ← if_there (whole_within 0 largest_integer) (get (codes "write") d)
  read ← if_there (whole_within 0 largest_integer) (get (codes "read") d)
  key ← option_map_or as_bool (get (codes "key") d) (Some false)
  Some (record { name = name; block = block; bit = bit; count = count; write = write; read = read; key = key })

-- the map of a document whose named members are of their types and ranges
unfoldable pub map_of_document : Data → Option Map
map_of_document d = do
  name ← get (codes "name") d >>= name_in
  block_items ← get (codes "block") d >>= items_in >>= list_of_length 1 4
  blocks ← all_of words_in block_items
  field_items ← get (codes "field") d >>= items_in >>= list_of_length 1 128
  fields ← all_of field_in field_items
  wr ← get (codes "wr") d >>= name_in
  rd ← get (codes "rd") d >>= name_in
  coding ← if_there name_in (get (codes "coding") d)
  Some (record { name = name; blocks = blocks; fields = fields; wr = wr; rd = rd; coding = coding })

-- the most bytes of a map's text
abbrev pub map_text_limit : ℕ
map_text_limit = 32768

-- the text is a TOML document within the limit whose named members are the map's
pub record HasMapMembers (text : List ℕ) (m : Map) : Type 0 where
  pub within : length text ≤ map_text_limit
  pub members : (document_of text >>= map_of_document) ≡ Some m

-- the text is a TOML document of at most 32,768 bytes whose named members are the map's, and the map keeps each rule of maps
pub record IsMapText (text : List ℕ) (m : Map) : Type 0 where
  pub within : length text ≤ map_text_limit
  pub members : (document_of text >>= map_of_document) ≡ Some m
  pub is_map : IsMap m

-- the map that a text is, or its lowest fault: a text that is too long isn't read, and has fault 2
abbrev pub map_read : List ℕ → Result Map MapFault
map_read text =
    if nat_lt map_text_limit (length text) then Err BadMember
    else result_and_then (λ d. result_and_then map_or_fault (ok_or (map_of_document d) BadMember)) (ok_or (document_of text) NotToml)

-- the fuse map that a text describes, if it describes one
unfoldable pub map_in : List ℕ → Option Map
map_in text = result_ok (map_read text)
