-- By the lemma on runs.
use Rattle.seat_laws.proofs.Lines.{moves_logged}
use Rattle.seat_laws.proofs.laws.what_is_sent_is_logged.Goals as goal

pub returns : goal.returns
returns c = moves_logged
