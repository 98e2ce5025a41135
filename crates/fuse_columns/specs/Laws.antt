-- What holds of columns and what they stand for, for every map.
use Rattle.std.specs.Prelude.{◌≡◌, ℕ, zero, suc, ◌+◌, ◌<◌, false, true, All, List, [], length, take, drop, Option, IfSome}
use Rattle.std.specs.FinSet as set
use Rattle.fusemap_core.specs.declared.pos.Pos.{Pos}
use Rattle.fusemap_core.specs.Prelude.{Map, IsMap, IsPosition}
use Rattle.fuse_image.specs.declared.image.Image.{Image}
use Rattle.fuse_image.specs.Prelude.{HoldsDigests, KeyTable, is_key_position, Positions, AreBits, AreKeysOf, IsPending}
use Rattle.fuse_image.specs.declared.pending.Pending.{Pending}
use Rattle.fuse_columns.specs.BitsColumns.{bits_column, bits_in, bits_length, is_plain, bytes_have_one}
use Rattle.fuse_columns.specs.Images.{image_in}
use Rattle.fuse_columns.specs.KeysColumns.{key_blocks, key_bytes, keys_column, keys_in, keys_length}
use Rattle.fuse_columns.specs.TodoColumns.{todo_column, pending_in}

-- the column of any set brings back those of its positions that are the map's and lie in no key field
abbrev pub PlainBitsComeBack : Type 0
PlainBitsComeBack = (m : Map) → IsMap m → (s : Positions) → bits_in m (bits_column m s) ≡ set.retain s (is_plain m)

-- a set of positions of the map that lie in no key field comes back as it was
abbrev pub BitsComeBack : Type 0
BitsComeBack = (m : Map) → IsMap m → (s : Positions) → AreBits m s → bits_in m (bits_column m s) ≡ s

-- a table of keys of the map comes back as it was
abbrev pub KeysComeBack : Type 0
KeysComeBack = (m : Map) (t : KeyTable) → AreKeysOf m t → keys_in m (keys_column m t) ≡ t

-- what is burnt comes back as it was from the columns of its bits and of its keys
abbrev pub ImageComesBack : Type 0
ImageComesBack = (m : Map) → IsMap m → (image : Image) → AreBits m image.burnt → AreKeysOf m image.keys
    → image_in m (bits_column m image.burnt) (keys_column m image.keys) ≡ image

-- work that lies in the map comes back as it was
abbrev pub WorkComesBack : Type 0
WorkComesBack = (m : Map) → IsMap m → (work : Pending) → IsPending m work → pending_in m (todo_column m work) ≡ work

-- whatever the bytes are, what they stand for lies in the map: bits, keys, and what is pending
abbrev pub BitsInMap : Type 0
BitsInMap = (m : Map) (bytes : List ℕ) → AreBits m (bits_in m bytes)

abbrev pub KeysInMap : Type 0
KeysInMap = (m : Map) (bytes : List ℕ) → AreKeysOf m (keys_in m bytes)

abbrev pub PendingInMap : Type 0
PendingInMap = (m : Map) (bytes : List ℕ) → IsPending m (pending_in m bytes)

-- a column is as long as the map says: that of bits, of keys, and of what is pending
abbrev pub BitsHaveLength : Type 0
BitsHaveLength = (m : Map) (s : Positions) → length (bits_column m s) ≡ bits_length m

abbrev pub KeysHaveLength : Type 0
KeysHaveLength = (m : Map) (t : KeyTable) → HoldsDigests t → length (keys_column m t) ≡ keys_length m

abbrev pub WorkHasLength : Type 0
WorkHasLength = (m : Map) (work : Pending) → HoldsDigests work.keys → length (todo_column m work) ≡ bits_length m + (bits_length m + keys_length m)

-- bytes are as many as those of all blocks, and key blocks are zeros
pub record IsBitsColumn (m : Map) (bytes : List ℕ) : Type 0 where
  pub size : length bytes ≡ bits_length m
  pub small : All (λ byte. byte < 256) bytes
  pub keys : (p : Pos) → IsPosition m.blocks p → is_key_position m p ≡ true → bytes_have_one m.blocks bytes p ≡ false

-- the bytes of a column of bits come back from the set that they stand for
abbrev pub BitsBytesComeBack : Type 0
BitsBytesComeBack = (m : Map) → IsMap m → (bytes : List ℕ) → IsBitsColumn m bytes → bits_column m (bits_in m bytes) ≡ bytes

-- bytes are those of a key: 33 zeros, or 1 and a digest
abbrev pub IsKeyBytes : List ℕ → Type 0
IsKeyBytes bytes = (key : Option (List ℕ)) × IfSome key (λ digest. length digest ≡ 32) × (bytes ≡ key_bytes key)

-- bytes are those of so many keys
abbrev pub AreKeyBytes : ℕ → List ℕ → Type 0
AreKeyBytes zero bytes = bytes ≡ []
AreKeyBytes (suc count) bytes = IsKeyBytes (take 33 bytes) × AreKeyBytes count (drop 33 bytes)

-- the bytes of keys, one for each key field, come back from the table that they stand for
abbrev pub KeyBytesComeBack : Type 0
KeyBytesComeBack = (m : Map) → IsMap m → (bytes : List ℕ) → AreKeyBytes (length (key_blocks m.fields)) bytes → keys_column m (keys_in m bytes) ≡ bytes

-- bytes are those of two sets, and then those of keys
pub record IsTodoColumn (m : Map) (bytes : List ℕ) : Type 0 where
  pub first : IsBitsColumn m (take (bits_length m) bytes)
  pub second : IsBitsColumn m (take (bits_length m) (drop (bits_length m) bytes))
  pub keys : AreKeyBytes (length (key_blocks m.fields)) (drop (bits_length m + bits_length m) bytes)

-- the bytes of a column of pending work come back from the work that they stand for
abbrev pub WorkBytesComeBack : Type 0
WorkBytesComeBack = (m : Map) → IsMap m → (bytes : List ℕ) → IsTodoColumn m bytes → todo_column m (pending_in m bytes) ≡ bytes
