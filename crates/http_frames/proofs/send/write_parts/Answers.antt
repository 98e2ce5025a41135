use Rattle.http_replies.specs.Prelude.{bytes_of_body}
use Rattle.http_frames.proofs.SendLemmas.{sending_then}
use Rattle.http_frames.proofs.send.write_parts.Goals as goal

pub returns-clause-sent : goal.returns-clause-sent
returns-clause-sent g c =
    let head = rw c.reply_head-len.ensures.text at c.in-All.ensures.sent in
    let body = rw c.as_bytes.ensures at c.write_all-2.ensures.sent in
    rw c.if-flags.false (sending_then _ _ _ _ (bytes_of_body c.args.reply.now.body) c.write_all-2.result head body)
