use Rattle.std.proofs.Common.{sym}
use Rattle.yield_counts.proofs.counted.CountedKeep.device.Goals as goal

pub invariant_of-self : goal.invariant_of-self
invariant_of-self g c = λ is.
    let read = c.device-found.ensures.read_only in
    let right = c.self.invariant (read.was_open is) in
    rw (read.same is) (record { devices = right.devices; left = right.left; device = sym ((rw c.in-Ok.is at c.device-found.ensures.answer) is) })
