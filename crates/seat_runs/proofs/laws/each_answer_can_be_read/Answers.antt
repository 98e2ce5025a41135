-- By the reading of names.
use Rattle.seat_runs.proofs.Reading.{reading, reads_refusals, reads_replies}
use Rattle.seat_runs.proofs.laws.each_answer_can_be_read.Goals as goal

pub returns : goal.returns
returns c = λ name_of. (reading name_of, reads_replies name_of, reads_refusals name_of)
