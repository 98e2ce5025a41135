use Rattle.text_core.proofs.Padding.{padded_integral-zeros}
use Rattle.id_ranges.proofs.mac.MacDisplay.fmt.Goals as goal

pub returns-clause-writes : goal.returns-clause-writes
returns-clause-writes g c =
    rw (← c.self.view_is) (rw (c.laid_out.ensures, c.in_radix.ensures, padded_integral-zeros) at c.write.ensures.writes)
