-- By the lemmas on what is read again and on what is kept aside.
use Rattle.seat_ask.proofs.Again.{state_again}
use Rattle.seat_ask.proofs.Asides.{aside_with-once}
use Rattle.seat_ask.proofs.laws.what_is_written_is_read.Goals as goal

pub returns-clause-whole : goal.returns-clause-whole
returns-clause-whole c = state_again

pub returns-clause-once : goal.returns-clause-once
returns-clause-once c = aside_with-once
