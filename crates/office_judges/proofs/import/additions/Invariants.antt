use Rattle.std.proofs.Common.{◌≡◌, take}
use Rattle.office_judges.specs.Prelude.{additions}
use Rattle.office_judges.proofs.import.additions.Given as goal

abbrev pub invariant-loop-row : goal.invariant-loop-row
invariant-loop-row l = l.writes.items ≡ additions l.customer l.issuer (take l.row-index l.rows)
