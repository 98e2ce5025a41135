-- Which sets of positions and tables of keys lie in a map, and that they stay in it.
use Rattle.std.specs.Prelude.{◌≡◌, ℕ, List, true, false}
use Rattle.std.specs.FinSet as set
use Rattle.std.specs.FinMap as map
use Rattle.fusemap_core.specs.declared.pos.Pos.{Pos}
use Rattle.fusemap_core.specs.Prelude.{IsPosition, Map}
use Rattle.fuse_image.specs.Keys.{HoldsDigests, KeyTable, keys_union, keys_without}
use Rattle.fuse_image.specs.Locks.{is_key_position}
use Rattle.fuse_image.specs.Places.{Positions}
use Rattle.fuse_image.specs.Redaction.{AreKeys, WordsFitMap, redacted}

-- each position of the set is one of the map's, and lies in no key field
abbrev pub AreBits : Map → Positions → Type 0
AreBits m s = (p : Pos) → set.contains s p ≡ true → IsPosition m.blocks p × (is_key_position m p ≡ false)

-- each key of the table is one of a key field of the map, and a digest of 32 bytes
pub record AreKeysOf (m : Map) (t : KeyTable) : Type 0 where
  pub keys : AreKeys m t
  pub digests : HoldsDigests t

-- in the map lie: no position, no key; two sets or tables together, where both do; and what is left of one
pub record SetsStay (m : Map) : Type 0 where
  pub none : AreBits m set.empty
  pub union : (s t : Positions) → AreBits m s → AreBits m t → AreBits m (set.union s t)
  pub difference : (s t : Positions) → AreBits m s → AreBits m (set.difference s t)

pub record TablesStay (m : Map) : Type 0 where
  pub none : AreKeysOf m map.empty
  pub joined : (t u : KeyTable) → AreKeysOf m t → AreKeysOf m u → AreKeysOf m (keys_union t u)
  pub without : (t u : KeyTable) → AreKeysOf m t → AreKeysOf m (keys_without t u)

-- a read-back of these words lies in the map: its ones are positions of the map outside key fields, and its digests those of key fields
pub record ReadBackInMap (m : Map) (blocks : List (List ℕ)) : Type 0 where
  pub ones : AreBits m (redacted m blocks).ones
  pub shown : AreKeysOf m (redacted m blocks).shown

-- a read-back of words that fit the map lies in the map
abbrev pub ReadBacksInMap : Type 0
ReadBacksInMap = (m : Map) (blocks : List (List ℕ)) → WordsFitMap m blocks → ReadBackInMap m blocks
