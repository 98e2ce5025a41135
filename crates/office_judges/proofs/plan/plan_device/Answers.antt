use Rattle.std.proofs.Common.{◌∙◌, inl, sym}
use Rattle.office_judges.proofs.Planned.{plan_made, plan_refused}
use Rattle.office_judges.proofs.plan.plan_device.Goals as goal

pub returns-in-Err : goal.returns-in-Err
returns-in-Err c =
    inl (plan_refused c.args.wishes.now c.args.map.now c.args.device.now c.in-Err.fault
    (rw (c.known_of.ensures, c.as_slice.ensures) at (sym c.in-Err.is ∙ c.plan.ensures.same)))

pub returns : goal.returns
returns c =
    let made =
    plan_made c.args.wishes.now c.args.map.now c.args.device.now c.in-Ok.work
    (rw (c.known_of.ensures, c.as_slice.ensures) at (sym c.in-Ok.is ∙ c.plan.ensures.same)) in (
      made.0,
      (rw made.1 at c.step_of_plan-step.ensures, rw (c.state_of_pending.ensures, made.1) at c.in_ok-body.ensures),
    )
