use Rattle.std.proofs.Common.{◌∙◌, sym}
use Rattle.fusemap_core.specs.Prelude.{field_named, holds}
use Rattle.fuse_plan.proofs.Asked.{in_no_field}
use Rattle.fuse_plan.proofs.fields.positions_named.Goals as goal

pub returns-in-None : goal.returns-in-None
returns-in-None c =
    c.empty.ensures ∙ in_no_field (λ f p. holds f p) (field_named c.args.name.now c.args.map.now.fields) (sym c.field_named.ensures.value ∙ c.in-None.is)
