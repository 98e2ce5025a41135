use Rattle.office_laws.proofs.Existing.{run_exists}
use Rattle.office_laws.proofs.runs.runs_exist.Goals as goal

pub returns : goal.returns
returns c = λ first last cs t sound seats. run_exists first cs last t sound seats
