use Rattle.std.proofs.Common.{◌≡◌, ◌∙◌, ap, arith, length, List, subst, sym, rules}
use Rattle.yield_report.specs.Prelude.{total, numbers_in, AreStorable}
use Rattle.yield_report.specs.declared.lines.OrderLine.{OrderLine}
use Rattle.yield_report.proofs.SiteLines.{customer_is}
use Rattle.yield_report.proofs.sites.append_line.Goals as goal

pub returns : goal.returns
returns g c = record {
  read_only = search rules;
  stays_open = search rules;
  answer = λ is.
      let items = c.in_ok-lines.lines.items in
      let sums : c.in-Some.sums ≡ total (numbers_in items) =
      c.in-Some.ensures.sums ∙ ap (λ (ls : List OrderLine). total (numbers_in ls)) c.as_slice.ensures.value in
      let count : c.len-count.result ≡ length items = c.len-count.ensures ∙ c.in_ok-lines.lines.ok.0 in
      let fit : AreStorable c.in-Some.sums =
      subst AreStorable (sym c.in-Some.ensures.sums) (c.in-Some.ensures.fits.0 (search rules)) in
      customer_is c.args.customer.now (g.K.Keep.tables c.args.keep.now) items c.in-Some.sums c.len-count.result c.args.text.now.items _
      (c.in_ok-lines.ensures.answer is) sums count
      (omega (arith, c.if-count-gt-LARGEST_NUMBER.false)) fit c.in_ok-append_customer.ensures;
}
