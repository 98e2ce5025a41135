use Rattle.std.proofs.Common.{◌≡◌, false, take}
use Rattle.std.specs.List.{list_any}
use Rattle.site_core.specs.Prelude.{is_bad_pool}
use Rattle.site_core.proofs.judge.make_pools.Given as goal

abbrev pub invariant-loop-draft : goal.invariant-loop-draft
invariant-loop-draft l = record {
  made : l.pools.items ≡ take l.draft-index l.drafts;
  good : list_any is_bad_pool (take l.draft-index l.drafts) ≡ false;
}
