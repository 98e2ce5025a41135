use Rattle.std.proofs.Common.{◌∙◌, ap, subst, List, ℕ}
use Rattle.http_frames.specs.Prelude.{IsOccurrence, same_ignoring_case}
use Rattle.http_frames.proofs.FieldsLemmas.{values_named-nil, values_named_more}
use Rattle.http_frames.proofs.fields.only_value.Goals as goal

pub loop-span-init : goal.loop-span-init
loop-span-init c = values_named-nil c.args.name.now

pub loop-span-preserved : goal.loop-span-preserved
loop-span-preserved c =
    let named = c.is_same_ignoring_case-is_named.ensures ∙ ap (λ n. same_ignoring_case n c.args.name.now) c.of.ensures in
    let more =
    values_named_more c.args.name.now c.args.buf.now c.args.spans.now c.loop-span.span-index _ _ c.of-in-loop-span.result c.loop-span-test.true named
    c.of-in-loop-span.ensures
    in
    subst (λ (values : List (List ℕ)). IsOccurrence values c.found_more-found.result) more
    (rw c.then_some.ensures at (c.found_more-found.ensures _ c.loop-span.invariant))
