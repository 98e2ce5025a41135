use Rattle.std.proofs.Common.{◌≡◌, false, sym, ◌∙◌, flat_map}
use Rattle.site_core.specs.Prelude.{pools_meet, has_pair}
use Rattle.site_core.proofs.Judged.{IsSite-from_tests}
use Rattle.site_core.proofs.judge.judged_site.Goals as goal

pub new-requires : goal.new-requires
new-requires c =
    let apart : has_pair pools_meet (flat_map (λ s. s.pools) c.draft.inside.customers.items) ≡ false =
    rw (← c.as_slice.ensures.value, ← c.in_ok-all_pools.ensures, ← c.as_slice-2.ensures.value) (sym c.if-have_meeting_pools.ensures) in
    let within = rw c.as_slice-3.ensures.value at (sym c.if-is_over_limit.ensures) in
    IsSite-from_tests c.args.draft _ _ c.draft.inside.manager c.draft.view_is c.in_ok-customers.ensures
    (sym c.in_ok-has_repeat.ensures ∙ c.if-branch.false) apart within
