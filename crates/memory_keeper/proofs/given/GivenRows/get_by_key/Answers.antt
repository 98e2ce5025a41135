use Rattle.std.proofs.Common.{◌∙◌}
use Rattle.memory_keeper.proofs.Records.{find_given, record_of_key}
use Rattle.memory_keeper.proofs.given.GivenRows.get_by_key.Goals as goal

pub returns : goal.returns
returns c = rw (← c.self.view_is) (rw c.given_key.ensures at c.get.ensures ∙ find_given c.args.issuer.now c.in_ok-serial.serial c.self.inside.rows
    ∙ record_of_key c.self.inside.rows c.self.inside.index c.args.issuer.now c.args.key.now c.in_ok-serial.serial c.self.invariant c.in_ok-serial.ensures)
