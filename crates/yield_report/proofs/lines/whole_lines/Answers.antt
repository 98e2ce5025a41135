use Rattle.std.proofs.Common.{◌≡◌, ◌∙◌, arith, subst, sym, take, take_all}
use Rattle.office_tables.proofs.Reading.{reads_more}
use Rattle.office_tables.specs.Prelude.{rows_of}
use Rattle.yield_report.specs.Prelude.{has_issued_in}
use Rattle.yield_report.proofs.WholeLines.{all_lines, lines_more, AreLinesOf}
use Rattle.yield_report.proofs.lines.whole_lines.Goals as goal

pub loop-order-preserved : goal.loop-order-preserved
loop-order-preserved g c =
    let inv = c.loop-order.invariant in
    record {
      read_only = reads_more inv.read_only c.order_line.ensures.read_only;
      stays_open = c.in_ok-order_line.ensures.stays_open;
      began = λ is. inv.began (c.order_line.ensures.read_only.was_open is);
      lines = λ is.
          let was = c.order_line.ensures.read_only.was_open is in
          let t = g.K.Keep.tables c.args.keep.now in
          let answer = rw (inv.read_only.same was) at (c.in_ok-order_line.ensures.answer is) in
          subst (AreLinesOf (has_issued_in t) (rows_of c.args.customer.now t.devices) _) (sym c.in_ok-push.ensures.items)
          (lines_more (has_issued_in t) (rows_of c.args.customer.now t.devices) c.deref-order-items.result.now c.loop-order.order-index c.order-item.result
          c.loop-order.lines.items c.in_ok-order_line.field-0 c.loop-order-test.true c.order-item.is (inv.lines was) answer);
    }

pub returns : goal.returns
returns g c =
    let inv = c.loop-order.invariant in
    let t = g.K.Keep.tables c.args.keep.now in
    let heads = c.deref-order-items.result.now in
    let all : take c.loop-order.order-index heads ≡ heads = take_all c.loop-order.order-index heads (omega (arith, c.loop-order-test.false)) in
    record {
      read_only = inv.read_only;
      stays_open = λ honest. inv.stays_open honest;
      answer = λ is.
          all_lines c.args.customer.now t heads c.loop-order.lines.items
          (c.deref-order-items.ensures.value ∙ c.in_ok-orders.ensures.answer (inv.began is)) (rw all at (inv.lines is));
    }
