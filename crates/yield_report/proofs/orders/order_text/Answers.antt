use Rattle.std.proofs.Common.{◌≡◌, ◌+◌, ◌∷◌, [], ◌++◌, ◌∙◌, ap, sym, take, List, ℕ}
use Rattle.std.proofs.lemmas.List.{take_more}
use Rattle.csv.specs.Writing.{default_writer, row_text}
use Rattle.yield_report.specs.Prelude.{line_fields, lines_text}
use Rattle.yield_report.specs.declared.lines.OrderLine.{OrderLine}
use Rattle.yield_report.proofs.WholeLines.{lines_text_more}
use Rattle.yield_report.proofs.orders.order_text.Goals as goal

pub loop-line-preserved : goal.loop-line-preserved
loop-line-preserved c =
    let lines = c.args.lines.now in
    let i = c.loop-line.line-index in
    let line : OrderLine = c.line-item.result in
    let more : take (i + 1) lines ≡ take i lines ++ line ∷ [] =
    take_more lines i line c.loop-line-test.true ∙ ap (λ (l : OrderLine). take i lines ++ l ∷ []) (sym c.line-item.is) in
    c.in_ok-append_named.ensures
    ∙ (ap (λ (text : List ℕ). text ++ row_text default_writer (line_fields line)) c.loop-line.invariant
    ∙ (lines_text_more (take i lines) line ∙ ap lines_text (sym more)))
