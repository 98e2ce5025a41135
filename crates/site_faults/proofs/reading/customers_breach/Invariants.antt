use Rattle.std.proofs.Common.{◌≡◌, ◌+◌, drop, map}
use Rattle.toml.specs.View.{view}
use Rattle.site_faults.specs.Prelude.{customers_breach}
use Rattle.site_faults.proofs.reading.customers_breach.Given as goal

abbrev pub invariant-loop-index : goal.invariant-loop-index
invariant-loop-index l = customers_breach 1 (map view l.values) ≡ customers_breach (l.index + 1) (map view (drop l.index l.values))
