-- What a chip shows when it is read back: its ones, and the digests of its keys.
use Rattle.std.specs.Prelude.{◌≡◌, ℕ, ◌/◌, ◌%◌, ◌<◌, Bool, true, false, ◌&&◌, ◌||◌, ◌==◌, not, List, [], length, map as list_map, slice_index, slice_index_or}
use Rattle.std.specs.Prelude.{Option, Some, None, is_some, option_and_then, if◌then◌else◌}
use Rattle.std.specs.Int.{bit_at}
use Rattle.std.specs.List.{list_any, list_all}
use Rattle.std.specs.Option.{option_map_or}
use Rattle.std.specs.FinSet as set
use Rattle.std.specs.FinMap as map
use Rattle.sha2.specs.Sha256.{sha256}
use Rattle.fusemap_core.specs.declared.field.Field.{Field}
use Rattle.fusemap_core.specs.declared.pos.Pos.{Pos}
use Rattle.fusemap_core.specs.Prelude.{Map, field_named, holds, read_lock}
use Rattle.fuse_image.specs.Keys.{KeyTable, table_where}
use Rattle.fuse_image.specs.Locks.{is_burnt, is_hidden, is_hidden_key, is_key_block, is_key_position}
use Rattle.fuse_image.specs.Places.{sets_meet, Positions, places_where}
use Rattle.fuse_image.specs.declared.redaction.ReadBack.{ReadBack}
use Rattle.fuse_image.specs.Blocks.{bytes_of_block}

-- there are as many blocks as the map has, each of as many words
abbrev pub WordsFitMap : Map → List (List ℕ) → Type 0
WordsFitMap m words = list_map length words ≡ m.blocks

-- the position reads 1
abbrev pub words_have_one : List (List ℕ) → Pos → Bool
words_have_one words p = bit_at (slice_index (slice_index_or words p.block []) (p.bit / 32)) (p.bit % 32) == 1

-- a word of the block isn't zero
abbrev pub block_has_one : List ℕ → Bool
block_has_one block = not (list_all (λ word. word == 0) block)

-- what a block shows of a key: the digest of its bytes, where it is a key field and not all zeros
abbrev pub shown_key : Map → List (List ℕ) → ℕ → Option (List ℕ)
shown_key m words b =
    if is_key_block m b && block_has_one (slice_index_or words b []) then Some (sha256 (bytes_of_block (slice_index_or words b []))) else None

-- the positions outside key fields that read 1
abbrev pub plain_ones : Map → List (List ℕ) → Positions
plain_ones m words = places_where (λ p. words_have_one words p && not (is_key_position m p))

-- what the words of a chip show, with each key replaced by its digest
unfoldable pub redacted : Map → List (List ℕ) → ReadBack
redacted m words = record { ones = plain_ones m words; shown = table_where (shown_key m words) }

-- each key of the table is one of a key field, in one of 4 blocks
abbrev pub AreKeys : Map → KeyTable → Type 0
AreKeys m keys = (b : ℕ) → is_some (map.get keys b) ≡ true → (b < 4) × (is_key_block m b ≡ true)

-- no position of the set lies in a key field
abbrev pub AreOutsideKeys : Map → Positions → Type 0
AreOutsideKeys m s = (p : Pos) → set.contains s p ≡ true → is_key_position m p ≡ false

-- a key field passes a test of its block
abbrev pub some_key : Map → (ℕ → Bool) → Bool
some_key m test = list_any (λ f. f.key && test f.block) m.fields

-- the coding field, if the map names one
abbrev pub coding_field : Map → Option Field
coding_field m = option_and_then (λ name. field_named name m.fields) m.coding

-- a field doesn't read 0, or what reads 1 hides it
abbrev pub may_be_set : Map → Positions → Field → Bool
may_be_set m ones f = sets_meet ones (places_where (holds f)) || is_burnt ones (read_lock m f)

-- there is a coding field, and it doesn't read 0, or it is hidden by what reads 1
abbrev pub has_coding_scheme : Map → Positions → Bool
has_coding_scheme m ones = option_map_or (may_be_set m ones) (coding_field m) false

-- a position that is hidden by what reads 1 reads 1 itself, or a key field that is hidden by it shows a key
abbrev pub shows_what_is_hidden : Map → ReadBack → Bool
shows_what_is_hidden m readback =
    sets_meet readback.ones (places_where (is_hidden m readback.ones))
    || some_key m (λ b. is_hidden_key m readback.ones b && is_some (map.get readback.shown b))
