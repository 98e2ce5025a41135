-- What wishes ask of a chip's fuses, by the fields of its map.
use Rattle.std.specs.Prelude.{ℕ, ◌-◌, ◌==◌, nat_le, nat_lt, Bool, false, not, ◌&&◌, List, [], ◌∷◌, Option, Some, None, option_and_then, if◌then◌else◌}
use Rattle.std.specs.List.{list_any}
use Rattle.std.specs.Option.{option_map_or, option_or}
use Rattle.std.specs.FinSet as set
use Rattle.fusemap_core.specs.declared.field.Field.{Field}
use Rattle.fusemap_core.specs.declared.pos.Pos.{Pos}
use Rattle.fusemap_core.specs.Prelude.{Map, bit_of, field_named, holds, is_lock, read_lock, write_lock}
use Rattle.fuse_image.specs.Prelude.{KeyTable, table_where, keys_without, Positions, places_where}
use Rattle.fuse_image.specs.declared.image.Image.{Image}
use Rattle.fuse_plan.specs.Numbers.{number_has_one}
use Rattle.fuse_plan.specs.declared.wants.Wants.{Wants}
use Rattle.fuse_plan.specs.declared.wish.Want.{Want}
use Rattle.fuse_plan.specs.declared.wish.Want.TheVariants.{Bit, Value, Key, WriteLock, ReadLock}
use Rattle.fuse_plan.specs.declared.wish.Wish.{Wish}

-- a number whose bit 0 lies at a position has a 1 at another one of the block, at or above it
abbrev pub is_one_from : List ℕ → Pos → Pos → Bool
is_one_from number first p = first.block == p.block && (nat_le first.bit p.bit && number_has_one number (p.bit - first.bit))

-- the map has a field of the name, and it passes a test
abbrev pub at_field : Map → (Field → Bool) → List ℕ → Bool
at_field m test name = option_map_or test (field_named name m.fields) false

-- the map has the field that the wish names, and what is wanted of it passes a test
abbrev pub wish_passes : Map → (Want → Field → Bool) → Wish → Bool
wish_passes m test w = at_field m (test w.want) w.field

-- bit i of a field, where it has one
abbrev pub bit_within : Field → ℕ → Option Pos
bit_within f i = if nat_lt i f.count then Some (bit_of f i) else None

-- the position is one that is to be 1: the bit that is asked for, a one of the value, or the field's lock bit
abbrev pub is_to_be_one : Map → Pos → Want → Field → Bool
is_to_be_one m p (Bit i) f = is_lock (bit_within f i) p
is_to_be_one m p (Value v) f = holds f p && number_has_one v (p.bit - f.bit)
is_to_be_one m p (Key digest) f = false
is_to_be_one m p WriteLock f = is_lock (write_lock m f) p
is_to_be_one m p ReadLock f = is_lock (read_lock m f) p

-- the position is one that is to be 0: a zero of the value
abbrev pub is_to_be_zero : Pos → Want → Field → Bool
is_to_be_zero p (Value v) f = holds f p && not (number_has_one v (p.bit - f.bit))
is_to_be_zero p _ f = false

-- a wish asks for a 1 at the position
abbrev pub asks_one : Map → Pos → Wish → Bool
asks_one m p w = wish_passes m (is_to_be_one m p) w

-- a wish asks for a 0 at the position
abbrev pub asks_zero : Map → Pos → Wish → Bool
asks_zero m p w = wish_passes m (is_to_be_zero p) w

-- the positions for which one of the wishes asks
abbrev pub asked_by : (Pos → Wish → Bool) → List Wish → Positions
asked_by asks ws = places_where (λ p. list_any (asks p) ws)

-- the positions that the wishes ask to be 1: to be burnt
unfoldable pub wanted_ones : Map → List Wish → Positions
wanted_ones m ws = asked_by (asks_one m) ws

-- the positions that the wishes ask to be 0: never to be burnt
unfoldable pub wanted_zeros : Map → List Wish → Positions
wanted_zeros m ws = asked_by (asks_zero m) ws

-- the digest of the key that is asked for in a block, where the field is the key field of that block
abbrev pub key_of_want : ℕ → Want → Field → Option (List ℕ)
key_of_want b (Key digest) f = if f.key && f.block == b then Some digest else None
key_of_want b _ f = None

-- the digest that a wish asks for in a block, if it is that of its field
abbrev pub key_of_wish : Map → ℕ → Wish → Option (List ℕ)
key_of_wish m b w = option_and_then (key_of_want b w.want) (field_named w.field m.fields)

-- the digest of the first wish for a key of the block
abbrev pub wanted_key : Map → ℕ → List Wish → Option (List ℕ)
wanted_key m b [] = None
wanted_key m b (w ∷ ws) = option_or (key_of_wish m b w) (wanted_key m b ws)

-- the keys that the wishes ask for, by their key blocks
unfoldable pub wanted_keys : Map → List Wish → KeyTable
wanted_keys m ws = table_where (λ b. wanted_key m b ws)

-- all that the wishes ask for
abbrev pub wants_of : Map → List Wish → Wants
wants_of m ws = record { ones = wanted_ones m ws; zeros = wanted_zeros m ws; keys = wanted_keys m ws }

-- what is asked for and isn't burnt: the positions to be 1 that aren't, and the keys of the key blocks of which none is known
abbrev pub missing : Image → Wants → Image
missing image w = record { burnt = set.difference w.ones image.burnt; keys = keys_without w.keys image.keys }
