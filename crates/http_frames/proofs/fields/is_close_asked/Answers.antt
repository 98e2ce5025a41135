use Rattle.std.proofs.Common.{◌∙◌, ap, sym, ◌&&◌, codes}
use Rattle.http_frames.specs.Prelude.{is_header_named, same_ignoring_case, has_close}
use Rattle.http_frames.proofs.FieldsLemmas.{any_header_at}
use Rattle.http_frames.proofs.fields.is_close_asked.Goals as goal

pub returns-then-lists_close : goal.returns-then-lists_close
returns-then-lists_close c =
    let named =
    ap (λ n. same_ignoring_case n (codes "connection")) (sym c.of.ensures) ∙ sym c.is_same_ignoring_case.ensures ∙ c.if-is_same_ignoring_case.true in
    let listed = ap has_close (sym c.of-then-is_same_ignoring_case.ensures) ∙ sym c.lists_close.ensures ∙ c.if-lists_close.true in
    sym (any_header_at (λ h. is_header_named (codes "connection") h && has_close h.1) c.args.buf.now c.args.spans.now c.loop-span.span-index _ c.loop-span-test.true
    (λ i. named i && listed i))
