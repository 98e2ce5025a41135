use Rattle.yield_counts.specs.Counts.{has_issued_in}
use Rattle.yield_counts.proofs.counted.Counted.over.Goals as goal

pub invariant_of-result : goal.invariant_of-result
invariant_of-result g c = λ is. record {
  devices = c.new.ensures (g.K.Keep.tables c.args.keep).devices;
  left = c.new-2.ensures (has_issued_in (g.K.Keep.tables c.args.keep));
  device = tt;
}
