use Rattle.std.proofs.Common.{Bool, List, Some, None, ap, ◌∙◌, position}
use Rattle.fusemap_core.specs.declared.field.Field.{Field}
use Rattle.fusemap_core.specs.Prelude.{Map, holds}
use Rattle.fusemap_core.proofs.Bounds.{field_of_first}
use Rattle.fusemap_core.proofs.map.FuseMap.field_at.Goals as goal

pub returns-in_err-index-clause-same : goal.returns-in_err-index-clause-same
returns-in_err-index-clause-same c =
    let test : Field → Bool = λ f. holds f c.args.pos in
    let fields = c.as_slice.ensures.value ∙ ap (λ (m : Map). m.fields) c.self.view_is in
    let place = c.in_err-index.ensures.value ∙ ap (λ (fs : List Field). position test fs) fields in
    rw c.from_residual.ensures (field_of_first c.args.self.now test None place)

pub returns-clause-same : goal.returns-clause-same
returns-clause-same c =
    let test : Field → Bool = λ f. holds f c.args.pos in
    let fields = c.as_slice.ensures.value ∙ ap (λ (m : Map). m.fields) c.self.view_is in
    let place = c.in_ok-index.ensures.value ∙ ap (λ (fs : List Field). position test fs) fields in
    field_of_first c.args.self.now test (Some c.in_ok-index.index) place
