use Rattle.fusemap_core.proofs.Bounds.{read_lock_is_position, read_lock_is_small}
use Rattle.fusemap_core.proofs.map.FuseMap.read_lock.Goals as goal

pub returns-clause-is_position : goal.returns-clause-is_position
returns-clause-is_position c =
    rw c.read_lock_of.ensures (read_lock_is_position c.args.self.now c.get.ensures.map c.args.id c.get.result c.get.ensures.is_it)

pub returns-clause-small : goal.returns-clause-small
returns-clause-small c =
    rw c.read_lock_of.ensures (read_lock_is_small c.args.self.now c.get.ensures.map c.args.id c.get.result c.get.ensures.is_it)
