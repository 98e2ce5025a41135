use Rattle.std.proofs.Common.{ap, ◌∙◌}
use Rattle.fusemap_core.specs.Prelude.{field_named}
use Rattle.fuse_plan.specs.declared.wish.Want.{Want}
use Rattle.fuse_plan.specs.Prelude.{asks_one, at_field, is_to_be_one}
use Rattle.fuse_plan.proofs.Asked.{none_passes, never}
use Rattle.fuse_plan.proofs.wants.ones_of.Goals as goal

pub returns-in-Key : goal.returns-in-Key
returns-in-Key c =
    c.empty.ensures ∙ none_passes (λ p. asks_one c.args.map.now p c.args.wish.now) (λ p.
    ap (λ (want : Want). at_field c.args.map.now (is_to_be_one c.args.map.now p want) c.args.wish.now.field) c.in-Key.is
    ∙ never (field_named c.args.wish.now.field c.args.map.now.fields))
