-- By the lemmas on a run.
use Rattle.seat_runs.proofs.Following.{concluded, row_held}
use Rattle.seat_runs.proofs.Telling.{told_done}
use Rattle.seat_runs.proofs.Logging.{logged, were_refused}
use Rattle.seat_runs.proofs.laws.a_station_concludes_what_the_office_did.Goals as goal

pub returns-clause-log : goal.returns-clause-log
returns-clause-log c = λ s. concluded s.names s.customer s.seat s.first s.office s.turns s.is_run

pub returns-clause-row : goal.returns-clause-row
returns-clause-row c = λ s. row_held s.names s.customer s.seat s.first s.office s.turns s.is_run

pub returns-clause-told : goal.returns-clause-told
returns-clause-told c = told_done

pub returns-clause-logged : goal.returns-clause-logged
returns-clause-logged c = λ s. logged s.names s.customer s.seat s.first s.office s.turns s.is_run

pub returns-clause-refused : goal.returns-clause-refused
returns-clause-refused c = λ s. were_refused s.names s.customer s.seat s.first s.office s.turns s.is_run
