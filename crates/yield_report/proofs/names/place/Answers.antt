use Rattle.std.proofs.Common.{◌<◌, ◌∙◌, ap, sym, arith, length, slice_index_or, slice_set, List, ℕ}
use Rattle.std.proofs.lemmas.List.{set_split}
use Rattle.office_tables.specs.Prelude.{text_cmp}
use Rattle.yield_report.proofs.Placed.{placed_over}
use Rattle.yield_report.proofs.names.place.Goals as goal

pub returns-in-Equal : goal.returns-in-Equal
returns-in-Equal c =
    let inv = c.loop-i.invariant in
    let i = c.loop-i.i in
    let name : List ℕ = c.args.name in
    let before : List (List ℕ) = c.args.names.now.items in
    let within : i < length before = omega (arith, c.loop-i-test.true, inv.end) in
    ap (λ (xs : List (List ℕ)). slice_set xs i name) inv.same
    ∙ (set_split before i name within
    ∙ placed_over text_cmp name before i c.index.result.now within
    (c.index.ensures ∙ ap (λ (xs : List (List ℕ)). slice_index_or xs i c.index.result.now) inv.same)
    (sym c.cmp.ensures ∙ c.in-Equal.is) inv.passed)
