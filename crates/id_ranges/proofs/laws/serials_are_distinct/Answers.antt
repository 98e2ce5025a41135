use Rattle.id_ranges.proofs.Texts.{texts_are_serials, same_number, same_width}
use Rattle.id_ranges.proofs.laws.serials_are_distinct.Goals as goal

pub returns-clause-serials : goal.returns-clause-serials
returns-clause-serials c = texts_are_serials

pub returns-clause-numbers : goal.returns-clause-numbers
returns-clause-numbers c r is m n one other differ same = differ (same_number r is m n one other same)

pub returns-clause-widths : goal.returns-clause-widths
returns-clause-widths c r s is also prefix differ m n one other same = differ (same_width r s is also prefix m n one other same)
