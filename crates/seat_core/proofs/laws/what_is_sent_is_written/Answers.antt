-- By the lemma on each step.
use Rattle.seat_core.proofs.Safe.{step_safe}
use Rattle.seat_core.proofs.laws.what_is_sent_is_written.Goals as goal

pub returns : goal.returns
returns c = step_safe
