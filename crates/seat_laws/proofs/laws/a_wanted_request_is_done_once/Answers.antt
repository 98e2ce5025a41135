-- By the lemma on runs.
use Rattle.seat_laws.proofs.Counting.{run_once}
use Rattle.seat_laws.proofs.laws.a_wanted_request_is_done_once.Goals as goal

pub returns : goal.returns
returns c = run_once
