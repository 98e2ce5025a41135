use Rattle.std.proofs.Common.{◌≡◌, ◌∙◌, arith, subst, take, take_all}
use Rattle.office_tables.proofs.Reading.{reads_more}
use Rattle.yield_report.proofs.SiteLines.{site_is, site_more, IsReported}
use Rattle.yield_report.proofs.sites.site_report.Goals as goal

pub loop-customer-preserved : goal.loop-customer-preserved
loop-customer-preserved g c =
    let inv = c.loop-customer.invariant in
    record {
      read_only = reads_more inv.read_only c.append_line.ensures.read_only;
      stays_open = c.in_ok-append_line.ensures.stays_open;
      reported = λ is.
          let was = c.append_line.ensures.read_only.was_open is in
          site_more (g.K.Keep.tables c.args.keep.now) _ c.deref-customer-items.result.now c.loop-customer.customer-index c.customer-item.result
          c.loop-customer.text.items _ c.loop-customer-test.true c.customer-item.is (inv.reported was) (inv.read_only.same was)
          (c.in_ok-append_line.ensures.answer is);
    }

pub returns : goal.returns
returns g c =
    let inv = c.loop-customer.invariant in
    let t = g.K.Keep.tables c.args.keep.now in
    let names = c.deref-customer-items.result.now in
    let all : take c.loop-customer.customer-index names ≡ names = take_all c.loop-customer.customer-index names (omega (arith, c.loop-customer-test.false)) in
    record {
      read_only = inv.read_only;
      stays_open = λ honest. inv.stays_open honest;
      answer = λ is.
          site_is c.args.site.now t names c.loop-customer.text.items (c.deref-customer-items.ensures.value ∙ c.in_ok-names.ensures)
          (subst (λ ns. IsReported t ns c.loop-customer.text.items) all (inv.reported is));
    }
