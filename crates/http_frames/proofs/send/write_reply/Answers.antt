use Rattle.http_frames.proofs.SendLemmas.{sending_whole}
use Rattle.http_frames.proofs.send.write_reply.Goals as goal

pub returns-in-All-clause-sent : goal.returns-in-All-clause-sent
returns-in-All-clause-sent g c = sending_whole _ _ _ _ c.end_reply.result c.in-All.ensures.sent c.end_reply.ensures.written
