use Rattle.text_core.proofs.Kit.{refl, nat_list_cmp_total, tied_itself}
use Rattle.memory_keeper.proofs.Keys.{filter_customer}
use Rattle.memory_keeper.proofs.devices.Devices.visit.Goals as goal

pub visit-requires : goal.visit-requires
visit-requires g c = rw (c.start-first.ensures, c.end-last.ensures, tied_itself nat_list_cmp_total c.args.customer.now) refl

pub returns : goal.returns
returns g c =
    rw (← c.self.view_is, ← (filter_customer c.args.customer.now c.self.inside.rows)) (rw (c.start-first.ensures, c.end-last.ensures) at c.visit.ensures)
