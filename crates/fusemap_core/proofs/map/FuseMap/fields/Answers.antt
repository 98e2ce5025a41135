use Rattle.fusemap_core.proofs.Bounds.{are_small}
use Rattle.fusemap_core.proofs.map.FuseMap.fields.Goals as goal

pub returns-clause-small : goal.returns-clause-small
returns-clause-small c = rw c.as_slice.ensures.value (are_small _ c.self.invariant)
