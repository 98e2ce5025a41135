use Rattle.std.proofs.Common.{◌≡◌, take, false}
use Rattle.http_frames.specs.Prelude.{asks_close, headers_at}
use Rattle.http_frames.proofs.fields.is_close_asked.Given as goal

abbrev pub invariant-loop-span : goal.invariant-loop-span
invariant-loop-span l = asks_close (headers_at l.buf (take l.span-index l.spans)) ≡ false
