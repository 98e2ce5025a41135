use Rattle.std.proofs.Common.{◌≡◌, ◌+◌, ◌-◌, ◌≤◌, ◌<◌, length, ◌⊎◌}
use Rattle.http_frames.specs.Prelude.{call_limit}
use Rattle.http_frames.specs.Prelude.{SendsPart}
use Rattle.http_frames.proofs.send.write_all.Given as goal

abbrev pub invariant-loop-rest : goal.invariant-loop-rest
invariant-loop-rest g l = record {
  part : SendsPart (g.W.Drain.written l.fn.writer) (g.W.Drain.written l.writer) l.bytes l.rest;
  kept : l.buffer ≡ record l.fn.buffer { calls = l.buffer.calls };
  calls : g.W.Drain.calls l.writer + l.fn.buffer.calls ≡ g.W.Drain.calls l.fn.writer + l.buffer.calls;
  more : l.fn.buffer.calls ≤ l.buffer.calls;
  within : l.fn.buffer.calls ≤ call_limit → l.buffer.calls ≤ call_limit;
  some : (length l.rest ≡ length l.bytes) ⊎ (l.fn.buffer.calls < l.buffer.calls);
  failures : g.W.Drain.failures l.writer ≡ g.W.Drain.failures l.fn.writer;
}

abbrev pub decreases-loop-rest : goal.decreases-loop-rest
decreases-loop-rest g l = call_limit - l.buffer.calls
