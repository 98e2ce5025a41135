use Rattle.http_frames.proofs.BufferLemmas.{moved_down}
use Rattle.http_frames.proofs.buffer.move_down.Goals as goal

pub returns : goal.returns
returns c = rw c.copy_within.ensures.after (moved_down c.args.bytes.now c.args.from c.args.len c.requires.0 c.requires.1)
