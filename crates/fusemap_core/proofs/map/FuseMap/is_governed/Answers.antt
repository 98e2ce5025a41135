use Rattle.fusemap_core.proofs.Bounds.{are_small}
use Rattle.fusemap_core.proofs.map.FuseMap.is_governed.Goals as goal

pub is_governed-requires : goal.is_governed-requires
is_governed-requires c = rw c.as_slice.ensures.value (are_small _ c.self.invariant)
