use Rattle.text_core.proofs.Kit.{refl, nat_list_cmp_total, tied_itself}
use Rattle.memory_keeper.proofs.Keys.{filter_behind}
use Rattle.memory_keeper.proofs.devices.Devices.visit_behind.Goals as goal

pub visit_behind-requires : goal.visit_behind-requires
visit_behind-requires g c = rw (c.of_row-first.ensures, c.end-last.ensures, tied_itself nat_list_cmp_total c.args.customer.now) refl

pub returns : goal.returns
returns g c =
    rw (← c.self.view_is, ← (filter_behind c.args.customer.now c.args.chip.now c.self.inside.rows))
    (rw (c.of_row-first.ensures, c.end-last.ensures) at c.visit_behind.ensures)
