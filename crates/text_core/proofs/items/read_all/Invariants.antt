use Rattle.std.proofs.Common.{◌≡◌, Some, Option, take}
use Rattle.text_core.specs.Prelude.{all_of, ReadsItems}
use Rattle.text_core.proofs.items.read_all.Given as goal

abbrev pub invariant-loop-value : goal.invariant-loop-value
invariant-loop-value g l =
    (item_in : g.row.V.Denot → Option g.row.T.Denot) → ReadsItems g.F.Fn l.fn.read item_in
    → all_of item_in (take l.value-index l.values) ≡ Some l.items.items
