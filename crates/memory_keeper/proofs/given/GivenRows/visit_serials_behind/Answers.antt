use Rattle.text_core.proofs.Kit.{refl, nat_list_cmp_total, tied_itself}
use Rattle.memory_keeper.proofs.Records.{filter_serials_behind}
use Rattle.memory_keeper.proofs.given.GivenRows.visit_serials_behind.Goals as goal

pub visit_parts_behind-requires : goal.visit_parts_behind-requires
visit_parts_behind-requires g c = rw (c.given_key-first.ensures, c.given_key-last.ensures, tied_itself nat_list_cmp_total c.args.issuer.now) refl

pub returns : goal.returns
returns g c =
    rw (← c.self.view_is, ← (filter_serials_behind c.args.issuer.now c.args.serial.now c.self.inside.rows))
    (rw (c.given_key-first.ensures, c.given_key-last.ensures) at c.visit_parts_behind.ensures)
