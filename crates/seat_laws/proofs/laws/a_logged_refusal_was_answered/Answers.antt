-- By the lemma on runs.
use Rattle.seat_laws.proofs.Refusals.{run_refused}
use Rattle.seat_laws.proofs.laws.a_logged_refusal_was_answered.Goals as goal

pub returns : goal.returns
returns c = run_refused
