use Rattle.std.proofs.Common.{rules, append_assoc}
use Rattle.seat_ask.proofs.sending.target_text.Goals as goal

pub returns : goal.returns
returns c = search (rules, append_assoc)
