use Rattle.std.proofs.Common.{ap, ◌∙◌}
use Rattle.std.specs.FinSet as set
use Rattle.fuse_image.specs.Prelude.{Positions}
use Rattle.fuse_plan.proofs.Compared.{lost_is}
use Rattle.fuse_plan.proofs.comparison.lost.Goals as goal

pub returns : goal.returns
returns c m L e =
    c.minus-2.ensures ∙ ap (λ (s : Positions). set.difference s c.args.ones.now) c.minus.ensures
    ∙ lost_is m L c.args.burnt.now c.args.ones.now c.args.hidden.now c.fact_places.ensures e
