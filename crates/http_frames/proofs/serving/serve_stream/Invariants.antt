use Rattle.std.proofs.Common.{◌≡◌, ◌+◌, ◌-◌, ◌≤◌, List, [], None}
use Rattle.http_frames.specs.Prelude.{call_limit, unread}
use Rattle.text_core.specs.Prelude.{Runs}
use Rattle.http_frames.specs.Prelude.{HttpExchange, requests_with_answers, ServesBytes}
use Rattle.http_frames.proofs.serving.serve_stream.Given as goal

abbrev pub invariant-loop-served : goal.invariant-loop-served
invariant-loop-served g l = record {
  run : (exchanges : List HttpExchange)
      × ServesBytes [] (g.R.Source.left l.fn.reader) (unread l.buffer) (g.R.Source.left l.reader) (g.W.Drain.written l.fn.writer)
      (g.W.Drain.written l.writer) None exchanges
      × Runs (g.V.Service.steps l.fn.service) l.fn.state (requests_with_answers exchanges) l.state;
  calls : g.R.Source.calls l.reader + g.W.Drain.calls l.writer ≡ g.R.Source.calls l.fn.reader + g.W.Drain.calls l.fn.writer + l.buffer.calls;
  reader : g.R.Source.calls l.fn.reader ≤ g.R.Source.calls l.reader;
  writer : g.W.Drain.calls l.fn.writer ≤ g.W.Drain.calls l.writer;
  within : l.buffer.calls ≤ call_limit;
  read_faults : g.R.Source.failures l.reader ≡ g.R.Source.failures l.fn.reader;
  write_faults : g.W.Drain.failures l.writer ≡ g.W.Drain.failures l.fn.writer;
}

abbrev pub decreases-loop-served : goal.decreases-loop-served
decreases-loop-served g l = call_limit - l.buffer.calls
