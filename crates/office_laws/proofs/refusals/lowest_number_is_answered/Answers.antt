use Rattle.std.proofs.Common.{arith}
use Rattle.office_rules.specs.Prelude.{refusals}
use Rattle.office_laws.proofs.Lowest.{above, lowest_of_ascending, refusals_ascend}
use Rattle.office_laws.proofs.refusals.lowest_number_is_answered.Goals as goal

pub returns-clause-lowest : goal.returns-clause-lowest
returns-clause-lowest c = λ s v command r e. lowest_of_ascending 12 (refusals s v command) r (refusals_ascend s v command) e

pub returns-clause-after_retry : goal.returns-clause-after_retry
returns-clause-after_retry c = λ s v command. above 12 12 (refusals s v command) (omega arith) (refusals_ascend s v command)
