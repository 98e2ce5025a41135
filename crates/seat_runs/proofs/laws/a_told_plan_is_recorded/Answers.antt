-- By the lemmas on a run.
use Rattle.seat_runs.proofs.Telling.{plan_kept}
use Rattle.seat_runs.proofs.laws.a_told_plan_is_recorded.Goals as goal

pub returns : goal.returns
returns c = plan_kept
