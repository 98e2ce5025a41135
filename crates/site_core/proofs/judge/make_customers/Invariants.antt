use Rattle.std.proofs.Common.{◌≡◌, ◌++◌, false}
use Rattle.std.specs.Vec.Iter.{into_iter_items}
use Rattle.site_core.specs.Prelude.{has_bad_pool}
use Rattle.site_core.proofs.judge.make_customers.Given as goal

abbrev pub invariant-loop-draft : goal.invariant-loop-draft
invariant-loop-draft l = record {
  made : l.customers.items ≡ l.yielded;
  good : has_bad_pool l.yielded ≡ false;
  rest : l.yielded ++ into_iter_items l.draft-iterator ≡ l.fn.drafts.items;
}
