use Rattle.std.proofs.Common.{sym}
use Rattle.id_ranges.proofs.Tables.{none-from_not_text}
use Rattle.id_ranges.proofs.read.serial_of.Goals as goal

pub returns-in-Err : goal.returns-in-Err
returns-in-Err c = sym (none-from_not_text c.args.field.now c.in-Err.ensures.cases.0)
