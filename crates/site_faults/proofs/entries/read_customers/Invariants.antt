use Rattle.std.proofs.Common.{◌≡◌, Some, map, take}
use Rattle.toml.specs.View.{view}
use Rattle.text_core.specs.Prelude.{all_of}
use Rattle.site_core.specs.Prelude.{customer_in}
use Rattle.site_faults.proofs.entries.read_customers.Given as goal

abbrev pub invariant-loop-value : goal.invariant-loop-value
invariant-loop-value l = all_of customer_in (map view (take l.value-index l.values)) ≡ Some l.customers.items
