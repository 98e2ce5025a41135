use Rattle.std.proofs.Common.{◌≡◌, take, flat_map}
use Rattle.site_faults.proofs.judged.all_issuers.Given as goal

abbrev pub invariant-loop-customer : goal.invariant-loop-customer
invariant-loop-customer l = l.issuers.items ≡ flat_map (λ s. s.issuers) (take l.customer-index l.customers)
