use Rattle.std.proofs.Common.{subst, sym, ◌∙◌}
use Rattle.fuse_image.specs.declared.pending.Pending.{Pending}
use Rattle.fuse_image.specs.Prelude.{IsPending}
use Rattle.fuse_plan.proofs.InMap.{plan_in_map}
use Rattle.fuse_plan.proofs.planner.plan.Goals as goal

pub returns-in-None-clause-work : goal.returns-in-None-clause-work
returns-in-None-clause-work c =
    let lies = plan_in_map c.args.map.now c.fact_map.ensures c.args.image.now c.args.wishes.now c.wants_of-wants.result c.missing-lacking.result
    c.wants_of-wants.ensures c.missing-lacking.ensures (sym c.lowest_fault.ensures ∙ c.in-None.is) c.fact_digests.ensures in
    subst (λ (w : Pending). IsPending c.args.map.now w) (sym c.batches.ensures) lies
