-- The bytes of the keys of a chip, and the table that they stand for.
use Rattle.std.specs.Prelude.{ℕ, ◌*◌, ◌&&◌, ◌==◌, List, [], ◌∷◌, length, map as list_map, filter, take, drop, replicate, Option, Some, None, if◌then◌else◌}
use Rattle.std.specs.Prelude.{flat_map}
use Rattle.std.specs.FinMap as map
use Rattle.fusemap_core.specs.declared.field.Field.{Field}
use Rattle.fusemap_core.specs.Prelude.{Map}
use Rattle.fuse_image.specs.Prelude.{KeyTable, table_where}

-- the blocks of the key fields, in the map's order
abbrev pub key_blocks : List Field → List ℕ
key_blocks fields = list_map (λ f. f.block) (filter (λ f. f.key) fields)

-- a key as 33 bytes: zeros where there is none, else 1 and the digest
abbrev pub key_bytes : Option (List ℕ) → List ℕ
key_bytes None = replicate 33 0
key_bytes (Some digest) = 1 ∷ digest

-- a table of keys as bytes, 33 for each key field in the map's order
unfoldable pub keys_column : Map → KeyTable → List ℕ
keys_column m t = flat_map (λ block. key_bytes (map.get t block)) (key_blocks m.fields)

-- how many bytes a table of keys takes
abbrev pub keys_length : Map → ℕ
keys_length m = 33 * length (key_blocks m.fields)

-- the key that 33 bytes stand for: the digest after a 1; any other bytes, or fewer, stand for none
abbrev pub key_of_bytes : List ℕ → Option (List ℕ)
key_of_bytes [] = None
key_of_bytes (first ∷ digest) = if first == 1 && length digest == 32 then Some digest else None

-- the key of a block, where bytes have 33 for each of these blocks
abbrev pub key_in_bytes : List ℕ → List ℕ → ℕ → Option (List ℕ)
key_in_bytes [] bytes block = None
key_in_bytes (b ∷ blocks) bytes block = if b == block then key_of_bytes (take 33 bytes) else key_in_bytes blocks (drop 33 bytes) block

-- the table that bytes stand for, whatever they are: a key at a block that is a key field, where the field's bytes stand for one
unfoldable pub keys_in : Map → List ℕ → KeyTable
keys_in m bytes = table_where (key_in_bytes (key_blocks m.fields) bytes)
