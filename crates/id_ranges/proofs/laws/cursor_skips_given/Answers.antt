use Rattle.id_ranges.proofs.NextNumbers.{cursor_skips}
use Rattle.id_ranges.proofs.laws.cursor_skips_given.Goals as goal

pub returns : goal.returns
returns c = cursor_skips
