use Rattle.std.proofs.Common.{◌≡◌, drop}
use Rattle.site_faults.specs.Prelude.{part_at}
use Rattle.site_faults.proofs.judged.part_at.Given as goal

abbrev pub invariant-loop-customer : goal.invariant-loop-customer
invariant-loop-customer l = part_at l.item l.last l.place l.customers ≡ part_at l.item l.last l.rest (drop l.customer-index l.customers)
