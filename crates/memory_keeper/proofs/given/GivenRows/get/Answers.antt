use Rattle.std.proofs.Common.{◌∙◌, ap, sym, find}
use Rattle.office_tables.specs.Prelude.{is_serial_of}
use Rattle.memory_keeper.proofs.Records.{find_given, no_record, text_of}
use Rattle.memory_keeper.proofs.given.GivenRows.get.Goals as goal

pub returns-in_err-serial : goal.returns-in_err-serial
returns-in_err-serial c =
    rw (c.from_residual.ensures, ← c.self.view_is) (sym (no_record c.args.issuer.now c.args.serial.now c.self.inside.rows c.self.invariant.are_serials
    c.in_err-serial.ensures))

pub returns : goal.returns
returns c = rw (← c.self.view_is) (rw c.given_key.ensures at c.get.ensures ∙ find_given c.args.issuer.now c.in_ok-serial.serial c.self.inside.rows
    ∙ ap (λ s. find (is_serial_of c.args.issuer.now s) c.self.inside.rows) (text_of c.in_ok-serial.serial c.args.serial.now c.in_ok-serial.ensures))
