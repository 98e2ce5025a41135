use Rattle.std.proofs.Common.{◌≡◌, ◌+◌, ◌-◌, ◌≤◌}
use Rattle.http_frames.specs.Prelude.{call_limit, unread, KeepsBytes}
use Rattle.http_frames.proofs.buffer.read_request.Given as goal

abbrev pub invariant-loop-framed : goal.invariant-loop-framed
invariant-loop-framed g l = record {
  taken : l.buffer.taken ≡ 0;
  bytes : KeepsBytes (unread l.fn.buffer) (g.R.Source.left l.fn.reader) l.buffer.window (g.R.Source.left l.reader) ⊥;
  calls : g.R.Source.calls l.reader + l.fn.buffer.calls ≡ g.R.Source.calls l.fn.reader + l.buffer.calls;
  more : l.fn.buffer.calls ≤ l.buffer.calls;
  failures : g.R.Source.failures l.reader ≡ g.R.Source.failures l.fn.reader;
}

abbrev pub decreases-loop-framed : goal.decreases-loop-framed
decreases-loop-framed g l = call_limit - l.buffer.calls
