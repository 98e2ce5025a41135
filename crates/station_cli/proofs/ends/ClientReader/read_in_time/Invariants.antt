use Rattle.std.proofs.Common.{◌≡◌, []}
use Rattle.http_frames.specs.Prelude.{ReadsBytes}
use Rattle.http_frames.specs.declared.transfer.Transfer.TheVariants.{Interrupted}
use Rattle.station_cli.proofs.ends.ClientReader.read_in_time.Given as goal

abbrev pub invariant-loop-wait : goal.invariant-loop-wait
invariant-loop-wait g l = record {
  bytes : ReadsBytes (g.I.Read.remaining l.fn.self.stream) (g.I.Read.remaining l.self.stream) [] Interrupted;
  calls : l.self.calls ≡ l.fn.self.calls;
  failures : l.self.failures ≡ l.fn.self.failures;
}
