use Rattle.std.proofs.Common.{◌≡◌, [], drop, take}
use Rattle.std.specs.BTreeSet.{contains}
use Rattle.std.specs.List.{list_any}
use Rattle.std.specs.Ordering.{eq_by_cmp}
use Rattle.site_faults.specs.Prelude.{first_again}
use Rattle.site_faults.proofs.double.item_again.Given as goal

abbrev pub invariant-loop-index : goal.invariant-loop-index
invariant-loop-index g l =
    let same = eq_by_cmp g.T.Ord.cmp in
    record {
      seen : (q : g.row.T.Denot) → contains g.T.Ord.cmp l.seen q ≡ list_any (same q) (take l.index l.items);
      rest : first_again same [] l.items ≡ first_again same (take l.index l.items) (drop l.index l.items);
    }
