use Rattle.std.proofs.Common.{◌≡◌, []}
use Rattle.http_frames.specs.Prelude.{WritesBytes}
use Rattle.http_frames.specs.declared.transfer.Transfer.TheVariants.{Interrupted}
use Rattle.station_cli.proofs.ends.ClientWriter.write_in_time.Given as goal

abbrev pub invariant-loop-wait : goal.invariant-loop-wait
invariant-loop-wait g l = record {
  bytes : WritesBytes (g.O.Write.contents l.fn.self.stream) (g.O.Write.contents l.self.stream) [] Interrupted;
  calls : l.self.calls ≡ l.fn.self.calls;
  failures : l.self.failures ≡ l.fn.self.failures;
}
