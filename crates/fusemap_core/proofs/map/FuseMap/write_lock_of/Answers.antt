use Rattle.fusemap_core.proofs.Bounds.{are_small}
use Rattle.fusemap_core.proofs.map.FuseMap.write_lock_of.Goals as goal

pub lock_of-requires : goal.lock_of-requires
lock_of-requires c = rw c.as_slice.ensures.value (are_small _ c.self.invariant)
