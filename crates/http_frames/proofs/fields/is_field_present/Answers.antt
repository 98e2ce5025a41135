use Rattle.std.proofs.Common.{◌∙◌, ap, sym}
use Rattle.http_frames.specs.Prelude.{is_header_named, same_ignoring_case}
use Rattle.http_frames.proofs.FieldsLemmas.{any_header_at}
use Rattle.http_frames.proofs.fields.is_field_present.Goals as goal

pub returns-then-is_same_ignoring_case : goal.returns-then-is_same_ignoring_case
returns-then-is_same_ignoring_case c =
    sym (any_header_at (is_header_named c.args.name.now) c.args.buf.now c.args.spans.now c.loop-field.field-index _ c.loop-field-test.true
    (ap (λ n. same_ignoring_case n c.args.name.now) (sym c.of.ensures) ∙ sym c.is_same_ignoring_case.ensures ∙ c.if-is_same_ignoring_case.true))
