use Rattle.office_laws.proofs.Promising.{promises}
use Rattle.office_laws.proofs.runs.runs_keep_the_promises.Goals as goal

pub returns : goal.returns
returns c =
    λ r. promises r.first r.exchanges r.last r.old r.new r.is_sound r.are_seats r.is_run
