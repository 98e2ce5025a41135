-- A fuse map: its blocks, its fields, the locks of the fields, and what holds of each map.
use Rattle.std.specs.Prelude.{◌≡◌, ◌≢◌, ℕ, ◌+◌, ◌*◌, ◌<◌, ◌≤◌, Bool, true, false, ◌&&◌, ◌||◌, ◌==◌, nat_le, nat_lt, List, length, find, position, slice_get}
use Rattle.std.specs.Prelude.{slice_index, All, AllPairs, Option, Some, None, IsSome, IfSome, IsSomeAnd, option_map, option_and_then, bytes_eq}
use Rattle.std.specs.List.{list_any}
use Rattle.fusemap_core.specs.declared.field.Field.{Field}
use Rattle.fusemap_core.specs.declared.map.FieldId.{FieldId}
use Rattle.fusemap_core.specs.declared.pos.Pos.{Pos}

-- a fuse map: its name, the words of each block, the fields in the text's order, and the names of
-- the write lock field, of the read lock field and of the coding field
pub record Map : Type 0 where
  pub name : List ℕ
  pub blocks : List ℕ
  pub fields : List Field
  pub wr : List ℕ
  pub rd : List ℕ
  pub coding : Option (List ℕ)

-- how many words a block has: none where there is no such block
abbrev pub word_count : List ℕ → ℕ → ℕ
word_count blocks block = slice_index blocks block

-- the position is a bit of one of the blocks
pub record IsPosition (blocks : List ℕ) (p : Pos) : Type 0 where
  pub block : p.block < length blocks
  pub bit : p.bit < 32 * word_count blocks p.block

-- the field has the position
abbrev pub holds : Field → Pos → Bool
holds f p = f.block == p.block && (nat_le f.bit p.bit && nat_lt p.bit (f.bit + f.count))

-- the field has the name
abbrev pub is_field_named : List ℕ → Field → Bool
is_field_named name f = bytes_eq f.name name

-- the field of a name
abbrev pub field_named : List ℕ → List Field → Option Field
field_named name fields = find (is_field_named name) fields

-- the position of bit i of a field
abbrev pub bit_of : Field → ℕ → Pos
bit_of f i = record { block = f.block; bit = f.bit + i }

-- the position of bit i of the field of a name
abbrev pub lock_at : List Field → List ℕ → ℕ → Option Pos
lock_at fields name i = option_map (λ f. bit_of f i) (field_named name fields)

-- the write lock of a field, and its read lock
abbrev pub write_lock : Map → Field → Option Pos
write_lock m f = option_and_then (lock_at m.fields m.wr) f.write

abbrev pub read_lock : Map → Field → Option Pos
read_lock m f = option_and_then (lock_at m.fields m.rd) f.read

-- there is a lock, and it is this position
abbrev pub is_lock : Option Pos → Pos → Bool
is_lock None p = false
is_lock (Some lock) p = lock.block == p.block && lock.bit == p.bit

-- the position lies in a field whose write lock or read lock is this one
abbrev pub is_governed : Map → Pos → Pos → Bool
is_governed m lock p = list_any (λ f. holds f p && (is_lock (write_lock m f) lock || is_lock (read_lock m f) lock)) m.fields

-- the identifier is that of a field of the map
abbrev pub IsFieldOf : Map → FieldId → Type 0
IsFieldOf m id = id.index < length m.fields

-- the field of an identifier
abbrev pub field_of : Map → FieldId → Option Field
field_of m id = slice_get m.fields id.index

-- the identifier of the field at a place
abbrev pub id_at : ℕ → FieldId
id_at place = record { index = place }

-- the identifier of the first field that passes a test
abbrev pub id_of : (Field → Bool) → Map → Option FieldId
id_of test m = option_map id_at (position test m.fields)

-- the map has 1 to 4 blocks of 1 to 8 words, and 1 to 128 fields of 1 or more bits
pub record IsInRange (m : Map) : Type 0 where
  pub least_blocks : 1 ≤ length m.blocks
  pub most_blocks : length m.blocks ≤ 4
  pub words : All (λ words. (1 ≤ words) × (words ≤ 8)) m.blocks
  pub least_fields : 1 ≤ length m.fields
  pub most_fields : length m.fields ≤ 128
  pub counts : All (λ f. 1 ≤ f.count) m.fields

-- the field lies in one of the blocks, and ends there
pub record IsInBlock (blocks : List ℕ) (f : Field) : Type 0 where
  pub block : f.block < length blocks
  pub end : f.bit + f.count ≤ 32 * word_count blocks f.block

-- no position lies in both fields
abbrev pub FieldsDisjoint : Field → Field → Type 0
FieldsDisjoint f g = (p : Pos) → holds f p ≡ true → holds g p ≡ false

-- the name is that of a plain field without read lock
abbrev pub NamesLockField : List Field → List ℕ → Type 0
NamesLockField fields name = IsSomeAnd (field_named name fields) (λ f. (f.key ≡ false) × (f.read ≡ None))

-- the name is that of a plain field other than the lock fields
pub record NamesCodingField (m : Map) (name : List ℕ) : Type 0 where
  pub plain : IsSomeAnd (field_named name m.fields) (λ f. f.key ≡ false)
  pub not_wr : name ≢ m.wr
  pub not_rd : name ≢ m.rd

-- the lock fields and the coding field, where there is one, are fields that can be it, and no two of them are the same
pub record HasLockFields (m : Map) : Type 0 where
  pub wr : NamesLockField m.fields m.wr
  pub rd : NamesLockField m.fields m.rd
  pub two : m.wr ≢ m.rd
  pub coding : IfSome m.coding (NamesCodingField m)

-- the field of the name has a bit i
abbrev pub HasBit : List Field → List ℕ → ℕ → Type 0
HasBit fields name i = IsSomeAnd (field_named name fields) (λ f. i < f.count)

-- the locks of the field are bits of the lock fields
pub record HasItsLocks (m : Map) (f : Field) : Type 0 where
  pub write : IfSome f.write (HasBit m.fields m.wr)
  pub read : IfSome f.read (HasBit m.fields m.rd)

-- the field is a whole block of 8 words with both locks
pub record IsKeyField (blocks : List ℕ) (f : Field) : Type 0 where
  pub first : f.bit ≡ 0
  pub whole : f.count ≡ 256
  pub words : word_count blocks f.block ≡ 8
  pub write : IsSome f.write
  pub read : IsSome f.read

-- The numbers are in range. No two fields have one name, each lies in its block, and no two
-- overlap. The lock fields can be lock fields, and each lock is a bit of its lock field. Each key
-- field can be one
pub record IsMap (m : Map) : Type 0 where
  pub ranges : IsInRange m
  pub names : AllPairs (λ f g. f.name ≢ g.name) m.fields
  pub in_block : All (IsInBlock m.blocks) m.fields
  pub apart : AllPairs FieldsDisjoint m.fields
  pub lock_fields : HasLockFields m
  pub locks : All (HasItsLocks m) m.fields
  pub keys : All (λ f. f.key ≡ true → IsKeyField m.blocks f) m.fields

-- the position is one of the first 256 bits of one of 4 blocks
pub record IsSmallPosition (p : Pos) : Type 0 where
  pub block : p.block < 4
  pub bit : p.bit < 256

-- the field lies in the first 256 bits of one of 4 blocks, and the numbers of its locks are below 256
pub record IsSmall (f : Field) : Type 0 where
  pub block : f.block < 4
  pub end : f.bit + f.count ≤ 256
  pub write : IfSome f.write (λ i. i < 256)
  pub read : IfSome f.read (λ i. i < 256)
