use Rattle.std.proofs.Common.{ap, ap₂, ◌∙◌}
use Rattle.std.specs.FinSet as set
use Rattle.fusemap_core.specs.declared.pos.Pos.{Pos}
use Rattle.fuse_image.specs.Prelude.{places_where}
use Rattle.fuse_plan.specs.Prelude.{is_one_from}
use Rattle.fuse_plan.proofs.Windows.{ones_are}
use Rattle.fuse_plan.proofs.values.ones_in.Goals as goal

pub returns : goal.returns
returns c =
    let value = c.args.value.now in
    let ones = c.ones_from.ensures ∙ ap (λ (first : Pos). places_where (is_one_from value first)) c.first.ensures in
    c.meet.ensures ∙ (ap₂ set.intersection c.positions_of.ensures ones ∙ ones_are c.args.field.now value)
