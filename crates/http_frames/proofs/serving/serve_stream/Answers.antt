use Rattle.std.proofs.Common.{[], ◌++◌, ap, arith, Some, None}
use Rattle.http_frames.specs.Prelude.{unread}
use Rattle.http_frames.proofs.StreamLemmas.{cycles_both, runs_on}
use Rattle.http_frames.proofs.serving.serve_stream.Goals as goal

pub returns-in-Some-clause-run : goal.returns-in-Some-clause-run
returns-in-Some-clause-run g c =
    let seen = c.loop-served.invariant.run in
    let exchange = c.in-Some.ensures.served_one in (
      seen.0 ++ exchange.0,
      cycles_both (Some c.in-Some.served) seen.0 exchange.0 [] (unread c.loop-served.buffer) (unread c.serve_one.new.buffer) (g.R.Source.left c.args.reader.now)
          (g.R.Source.left c.loop-served.reader)
          (g.R.Source.left c.serve_one.new.reader) (g.W.Drain.written c.args.writer.now) (g.W.Drain.written c.loop-served.writer)
          (g.W.Drain.written c.serve_one.new.writer)
          c.in-Some.ensures.no_memory seen.1 exchange.2,
      runs_on (g.V.Service.steps c.args.service.now) c.args.state.now seen.0 c.loop-served.state exchange.0 c.serve_one.new.state seen.2 exchange.3,
    )

pub returns-in-Some-clause-within : goal.returns-in-Some-clause-within
returns-in-Some-clause-within g c =
    let seen = c.loop-served.invariant in
    let exchange = c.in-Some.ensures in
    record {
      calls = omega (arith, seen.calls, exchange.calls, exchange.within);
      limit = λ is. let met = exchange.limit (ap Some is) in omega (arith, met, seen.calls, exchange.calls);
      failed_reads = omega (arith, seen.read_faults, exchange.read_faults);
      failed_writes = omega (arith, seen.write_faults, exchange.write_faults);
      no_memory = λ is. absurd (exchange.no_memory (ap Some is));
    }

pub loop-served-preserved : goal.loop-served-preserved
loop-served-preserved g c =
    let seen = c.loop-served.invariant in
    let exchange = c.in_default.ensures in
    record {
      run = (
        seen.run.0 ++ exchange.served_one.0,
        cycles_both None seen.run.0 exchange.served_one.0 [] (unread c.loop-served.buffer) (unread c.serve_one.new.buffer) (g.R.Source.left c.args.reader.now)
            (g.R.Source.left c.loop-served.reader)
            (g.R.Source.left c.serve_one.new.reader) (g.W.Drain.written c.args.writer.now) (g.W.Drain.written c.loop-served.writer)
            (g.W.Drain.written c.serve_one.new.writer)
            exchange.no_memory seen.run.1 exchange.served_one.2,
        runs_on (g.V.Service.steps c.args.service.now) c.args.state.now seen.run.0 c.loop-served.state exchange.served_one.0 c.serve_one.new.state seen.run.2
            exchange.served_one.3,
      );
      calls = omega (arith, seen.calls, exchange.calls);
      reader = omega (arith, seen.reader, exchange.reader_calls);
      writer = omega (arith, seen.writer, exchange.writer_calls);
      within = exchange.within;
      read_faults = omega (arith, seen.read_faults, exchange.read_faults);
      write_faults = omega (arith, seen.write_faults, exchange.write_faults);
    }
