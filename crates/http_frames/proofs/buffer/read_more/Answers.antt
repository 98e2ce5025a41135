use Rattle.std.proofs.Common.{arith}
use Rattle.http_frames.proofs.BufferLemmas.{unmoved, kept}
use Rattle.http_frames.proofs.buffer.read_more.Goals as goal

pub returns-clause-still : goal.returns-clause-still
returns-clause-still g c = unmoved c.args.bytes.now c.read_behind.new.bytes c.args.len _ c.read_behind.ensures.before

pub returns-clause-bytes : goal.returns-clause-bytes
returns-clause-bytes g c =
    kept c.args.bytes.now c.read_behind.new.bytes c.args.len c.read_behind.result _ _ c.read_behind.ensures.before c.requires.room
    (omega arith) c.read_behind.ensures.bytes
