use Rattle.std.proofs.Common.{◌∙◌, sym}
use Rattle.memory_keeper.proofs.Absent.{without_none}
use Rattle.memory_keeper.proofs.Records.{find_given, indexed-without, without_given}
use Rattle.memory_keeper.proofs.given.GivenRows.remove.Goals as goal

pub invariant_of-self : goal.invariant_of-self
invariant_of-self c =
    let row = c.args.row.now.row in
    let rows = c.self.inside.rows in
    rw (c.remove.ensures.other_rows, c.given_key-key.ensures, without_given row.issuer row.serial rows)
    (indexed-without rows c.self.inside.index c.remove-in-Some.new.self c.self.invariant c.in-Some.removed row.issuer row.serial
    (sym (find_given row.issuer row.serial rows) ∙ (sym (rw c.given_key-key.ensures at c.remove.ensures.removed) ∙ c.in-Some.is))
    c.remove-in-Some.ensures.serials c.remove-in-Some.ensures.macs)

pub invariant_of-self-in_default : goal.invariant_of-self-in_default
invariant_of-self-in_default c =
    rw c.remove.ensures.other_rows (rw (without_none _ c.self.inside.rows (sym c.remove.ensures.removed ∙ c.in_default.is)) c.self.invariant)

pub returns-in-Some : goal.returns-in-Some
returns-in-Some c =
    rw (c.remove.ensures.other_rows, ← c.self.view_is, c.given_key-key.ensures)
    (without_given c.args.row.now.row.issuer c.args.row.now.row.serial c.self.inside.rows)

pub returns-in_default : goal.returns-in_default
returns-in_default c =
    rw (c.remove.ensures.other_rows, ← c.self.view_is, c.given_key-key.ensures)
    (without_given c.args.row.now.row.issuer c.args.row.now.row.serial c.self.inside.rows)
