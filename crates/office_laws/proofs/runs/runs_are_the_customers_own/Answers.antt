use Rattle.office_laws.proofs.RunLaws.{isolated, run_grows, run_sound}
use Rattle.office_laws.proofs.runs.runs_are_the_customers_own.Goals as goal

pub returns-clause-sound : goal.returns-clause-sound
returns-clause-sound c =
    λ r. run_sound r.first r.exchanges r.last r.old r.new r.is_sound r.are_seats r.is_run

pub returns-clause-isolated : goal.returns-clause-isolated
returns-clause-isolated c = λ r customer.
    isolated customer r.first r.exchanges r.last r.old r.new r.is_sound r.are_seats r.is_run

pub returns-clause-grows : goal.returns-clause-grows
returns-clause-grows c =
    λ r. run_grows r.first r.exchanges r.last r.old r.new r.is_sound r.are_seats r.is_run
