-- By the lemmas on a refusal.
use Rattle.seat_core.proofs.Copies.{again_sure, look_kept, once_kept, probe_kept}
use Rattle.seat_core.proofs.laws.a_refusal_takes_no_number.Goals as goal

pub returns-clause-once : goal.returns-clause-once
returns-clause-once c = once_kept

pub returns-clause-again : goal.returns-clause-again
returns-clause-again c = again_sure

pub returns-clause-probe : goal.returns-clause-probe
returns-clause-probe c = probe_kept

pub returns-clause-look : goal.returns-clause-look
returns-clause-look c = look_kept
