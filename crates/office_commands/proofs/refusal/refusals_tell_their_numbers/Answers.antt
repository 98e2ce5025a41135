use Rattle.office_commands.proofs.Numbers.{number_told}
use Rattle.office_commands.proofs.refusal.refusals_tell_their_numbers.Goals as goal

pub returns : goal.returns
returns c = number_told
