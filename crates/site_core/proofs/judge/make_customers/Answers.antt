use Rattle.std.proofs.Common.{◌≡◌, ◌∷◌, ◌++◌}
use Rattle.std.specs.Vec.Iter.{into_iter_items}
use Rattle.site_core.proofs.Judged.{fault-at, map_of_error}
use Rattle.site_core.proofs.judge.make_customers.Goals as goal

pub returns-in_err-make_customer : goal.returns-in_err-make_customer
returns-in_err-make_customer c =
    let at = c.loop-draft in
    let all : at.yielded ++ c.in-Some.draft ∷ into_iter_items c.next.new.self ≡ c.args.drafts.items = rw (← c.in-Some.ensures.steps.0) at.invariant.rest in
    let fault = fault-at at.yielded (into_iter_items c.next.new.self) c.in-Some.draft c.in_err-make_customer.field-0.0 c.in_err-make_customer.ensures in
    rw (map_of_error _ c.from_residual.result _ c.from_residual.ensures.1) (rw all at fault)
