use Rattle.text_core.proofs.Kit.{refl, nat_list_cmp_total, tied_itself}
use Rattle.memory_keeper.proofs.Records.{filter_issuer}
use Rattle.memory_keeper.proofs.given.GivenRows.visit.Goals as goal

pub visit-requires : goal.visit-requires
visit-requires g c = rw (c.given_key-first.ensures, c.given_key-last.ensures, tied_itself nat_list_cmp_total c.args.issuer.now) refl

pub returns : goal.returns
returns g c =
    rw (← c.self.view_is, ← (filter_issuer c.args.issuer.now c.self.inside.rows)) (rw (c.given_key-first.ensures, c.given_key-last.ensures) at c.visit.ensures)
