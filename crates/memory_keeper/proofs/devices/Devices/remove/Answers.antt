use Rattle.memory_keeper.proofs.Keys.{without_device}
use Rattle.memory_keeper.proofs.devices.Devices.remove.Goals as goal

pub returns : goal.returns
returns c = rw (c.remove.ensures.other_rows, ← c.self.view_is, c.of_row.ensures) (without_device c.args.customer.now c.args.chip.now c.self.inside.rows)
