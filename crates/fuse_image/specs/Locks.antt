-- What the burnt lock bits of a fuse map hide and protect.
use Rattle.std.specs.Prelude.{ℕ, Bool, false, ◌&&◌, ◌==◌, List, Option, Some, None}
use Rattle.std.specs.List.{list_any}
use Rattle.std.specs.FinSet as set
use Rattle.fusemap_core.specs.declared.field.Field.{Field}
use Rattle.fusemap_core.specs.declared.pos.Pos.{Pos}
use Rattle.fusemap_core.specs.Prelude.{Map, holds, read_lock, write_lock}
use Rattle.fuse_image.specs.declared.locks.Lock.{Lock}
use Rattle.fuse_image.specs.declared.locks.Lock.TheVariants.{Write, Read}
use Rattle.fuse_image.specs.Places.{Positions, places_where}

-- there is a lock, and it is burnt
abbrev pub is_burnt : Positions → Option Pos → Bool
is_burnt burnt None = false
is_burnt burnt (Some lock) = set.contains burnt lock

-- the positions of those of the fields that pass a test
abbrev pub positions_in : (Field → Bool) → List Field → Positions
positions_in test fields = places_where (λ p. list_any (λ f. holds f p && test f) fields)

-- one of the two locks of a field
abbrev pub lock_of : Map → Lock → Field → Option Pos
lock_of m Write f = write_lock m f
lock_of m Read f = read_lock m f

-- the field has that lock, and it is burnt
abbrev pub has_burnt_lock : Map → Lock → Positions → Field → Bool
has_burnt_lock m lock burnt f = is_burnt burnt (lock_of m lock f)

-- the position lies in a field whose read lock is burnt
unfoldable pub is_hidden : Map → Positions → Pos → Bool
is_hidden m burnt p = list_any (λ f. holds f p && is_burnt burnt (read_lock m f)) m.fields

-- the position lies in a field whose write lock is burnt
unfoldable pub is_write_protected : Map → Positions → Pos → Bool
is_write_protected m burnt p = list_any (λ f. holds f p && is_burnt burnt (write_lock m f)) m.fields

-- the position lies in a key field
unfoldable pub is_key_position : Map → Pos → Bool
is_key_position m p = list_any (λ f. holds f p && f.key) m.fields

-- a block is a key field
abbrev pub is_key_block : Map → ℕ → Bool
is_key_block m b = list_any (λ f. f.key && f.block == b) m.fields

-- a block is a key field whose read lock is burnt
unfoldable pub is_hidden_key : Map → Positions → ℕ → Bool
is_hidden_key m burnt b = list_any (λ f. f.key && (f.block == b && is_burnt burnt (read_lock m f))) m.fields

-- a block is a key field whose write lock is burnt
unfoldable pub is_write_protected_key : Map → Positions → ℕ → Bool
is_write_protected_key m burnt b = list_any (λ f. f.key && (f.block == b && is_burnt burnt (write_lock m f))) m.fields
