use Rattle.std.proofs.Common.{◌∙◌, ap, ap₂, sym, List, ℕ}
use Rattle.office_tables.specs.Prelude.{with_row, text_cmp}
use Rattle.yield_report.specs.Prelude.{sorted_names}
use Rattle.yield_report.proofs.Placed.{name_before}
use Rattle.yield_report.proofs.names.customer_names.Goals as goal

pub loop-i-preserved : goal.loop-i-preserved
loop-i-preserved c =
    let customers = c.customers-customers.result.now in
    c.in_ok-place.ensures
    ∙ (ap₂ (λ (name : List ℕ) (names : List (List ℕ)). with_row text_cmp name names) c.name.ensures c.loop-i.invariant
    ∙ ap sorted_names (sym (name_before customers c.loop-i.i c.index-customers-customers.result c.loop-i-test.true c.index-customers-customers.is)))
