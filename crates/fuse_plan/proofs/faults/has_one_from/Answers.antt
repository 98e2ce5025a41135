use Rattle.std.proofs.Common.{◌-◌, ap, ap₂, ◌∙◌}
use Rattle.std.specs.FinSet as set
use Rattle.fuse_image.specs.Prelude.{Positions, sets_meet, run}
use Rattle.fuse_image.proofs.Sets.{union-empty}
use Rattle.fuse_plan.proofs.Past.{sets_meet-from}
use Rattle.fuse_plan.proofs.faults.has_one_from.Goals as goal

pub returns : goal.returns
returns c =
    let past : Positions = run (record { block = 0; bit = c.args.start }) (256 - c.args.start) in
    c.meets.ensures
    ∙ (ap₂ (λ (s t : Positions). sets_meet s t) c.ones_from-ones.ensures
    (c.with_run.ensures ∙ (ap (λ (s : Positions). set.union s past) c.empty.ensures ∙ union-empty past))
    ∙ sets_meet-from c.args.value.now c.args.start c.requires)
