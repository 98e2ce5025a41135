use Rattle.office_laws.proofs.Leaving.{stop_leaves}
use Rattle.office_laws.proofs.Promising.{promises}
use Rattle.office_laws.proofs.Stopping.{stopped_runs, stopped_seats}
use Rattle.office_laws.proofs.runs.stopped_runs_are_runs.Goals as goal

pub returns-clause-run : goal.returns-clause-run
returns-clause-run c = λ ss all t t2 run. stopped_runs ss all t t2 run

pub returns-clause-promises : goal.returns-clause-promises
returns-clause-promises c =
    λ first last ss all t t2 sound sessions run. promises first all last t t2 sound
    (stopped_seats first ss all last t t2 sessions run) (stopped_runs ss all t t2 run)

pub returns-clause-crash : goal.returns-clause-crash
returns-clause-crash c = λ s t left leaves. (leaves.0, stop_leaves s t leaves.0 left leaves.1)
