use Rattle.std.proofs.Common.{◌≡◌, ◌+◌, drop, map}
use Rattle.toml.specs.View.{view}
use Rattle.site_faults.specs.Prelude.{items_breach}
use Rattle.site_faults.proofs.reading.items_breach.Given as goal

abbrev pub invariant-loop-index : goal.invariant-loop-index
invariant-loop-index l = items_breach l.item l.title 1 (map view l.values) ≡ items_breach l.item l.title (l.index + 1) (map view (drop l.index l.values))
