use Rattle.id_ranges.proofs.Meeting.{same_test}
use Rattle.id_ranges.proofs.serial_range.SerialRange.meets.Goals as goal

pub returns-clause-tested : goal.returns-clause-tested
returns-clause-tested c = same_test c.args.self.now c.args.other.now c.has_a_serial_of.result c.has_a_serial_of.ensures
