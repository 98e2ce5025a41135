use Rattle.std.proofs.Common.{refl}
use Rattle.memory_keeper.proofs.Counted.{places_walked}
use Rattle.memory_keeper.proofs.devices.Devices.places_taken.Goals as goal

pub returns : goal.returns
returns c =
    rw (← c.self.view_is) (places_walked c.args.customer.now _ c.visit.new.sink c.self.inside.rows (rw (← c.self.view_is) at c.visit.ensures) refl
    (rw c.len-count.ensures.len at c.len-count.ensures.bound))
