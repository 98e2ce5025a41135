use Rattle.memory_keeper.proofs.Keys.{find_device}
use Rattle.memory_keeper.proofs.devices.Devices.get.Goals as goal

pub returns : goal.returns
returns c = rw (← c.self.view_is, ← (find_device c.args.customer.now c.args.chip.now c.self.inside.rows)) (rw c.of_row.ensures at c.get.ensures)
