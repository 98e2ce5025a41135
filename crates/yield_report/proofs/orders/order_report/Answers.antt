use Rattle.std.proofs.Common.{◌∙◌, ap, rules}
use Rattle.yield_report.specs.Prelude.{lines_text}
use Rattle.yield_report.proofs.WholeLines.{report_of_lines}
use Rattle.yield_report.proofs.orders.order_report.Goals as goal

pub returns : goal.returns
returns g c = record {
  read_only = search rules;
  stays_open = search rules;
  answer = λ is.
      let lines = c.in_ok-lines.ensures.answer is in
      report_of_lines c.args.customer.now (g.K.Keep.tables c.args.keep.now) c.in_ok-lines.lines.items _ lines
      (c.in_ok-order_text.ensures ∙ ap lines_text c.as_slice.ensures.value);
}
