use Rattle.std.proofs.Common.{◌≡◌, drop}
use Rattle.site_faults.specs.Prelude.{customers_lost}
use Rattle.site_faults.proofs.growth.customers_lost.Given as goal

abbrev pub invariant-loop-customer : goal.invariant-loop-customer
invariant-loop-customer l = customers_lost l.new l.old ≡ customers_lost l.new (drop l.customer-index l.old)
