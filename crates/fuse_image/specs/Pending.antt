-- What is still to be burnt.
use Rattle.std.specs.FinSet as set
use Rattle.std.specs.FinMap as map
use Rattle.fusemap_core.specs.Prelude.{Map}
use Rattle.fuse_image.specs.InMap.{AreBits, AreKeysOf}
use Rattle.fuse_image.specs.declared.pending.Pending.{Pending}

-- nothing is to be burnt
abbrev pub no_pending : Pending
no_pending = record { first = set.empty; second = set.empty; keys = map.empty }

-- the work lies in the map: its bits outside key fields, its keys at key fields
pub record IsPending (m : Map) (work : Pending) : Type 0 where
  pub first : AreBits m work.first
  pub second : AreBits m work.second
  pub keys : AreKeysOf m work.keys
