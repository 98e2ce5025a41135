-- By the lemma on runs.
use Rattle.seat_laws.proofs.Running.{run_concludes}
use Rattle.seat_laws.proofs.laws.a_station_concludes_what_was_done.Goals as goal

pub returns : goal.returns
returns c = run_concludes
