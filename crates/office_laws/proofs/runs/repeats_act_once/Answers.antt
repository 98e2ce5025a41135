use Rattle.office_laws.proofs.Acting.{acts_once}
use Rattle.office_laws.proofs.RunLaws.{run_alone}
use Rattle.office_laws.proofs.runs.repeats_act_once.Goals as goal

pub returns : goal.returns
returns c = λ r customer. acts_once customer r.exchanges r.old r.new
    (run_alone customer r.first r.exchanges r.last r.old r.new r.is_sound r.are_seats r.is_run)
