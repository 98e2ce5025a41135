use Rattle.std.proofs.Common.{◌≡◌, sym, ap, ◌∙◌}
use Rattle.fusemap_core.specs.Prelude.{Map}
use Rattle.fusemap_core.proofs.Bounds.{are_small}
use Rattle.fusemap_core.proofs.Judged.{IsMap-from_no_fault}
use Rattle.fusemap_core.proofs.judge.judged_map.Goals as goal

pub make_fields-requires : goal.make_fields-requires
make_fields-requires c =
    let fields : c.as_slice.result.now ≡ c.args.draft.fields = c.as_slice.ensures.value ∙ ap (λ (m : Map). m.fields) c.draft.view_is in
    rw fields (are_small c.args.draft (IsMap-from_no_fault c.args.draft c.requires (sym c.lowest_fault.ensures ∙ c.in_default.is)))

pub new-requires : goal.new-requires
new-requires c =
    rw (c.in_ok-fields.ensures, c.as_slice.ensures.value, c.draft.view_is)
    (IsMap-from_no_fault c.args.draft c.requires (sym c.lowest_fault.ensures ∙ c.in_default.is))
