use Rattle.std.proofs.Common.{ap, ap₂, ◌∙◌}
use Rattle.std.specs.FinSet as set
use Rattle.fuse_plan.proofs.Compared.{stray_is}
use Rattle.fuse_plan.proofs.comparison.stray.Goals as goal

pub returns : goal.returns
returns c m L e =
    c.join-2.ensures
    ∙ ap₂ set.union (c.minus.ensures ∙ ap (set.difference c.args.ones.now) c.join.ensures) c.meet.ensures
    ∙ stray_is m L c.args.burnt.now c.args.batch.now c.args.ones.now c.args.hidden.now c.fact_places.ensures e
