use Rattle.std.proofs.Common.{◌≡◌, ◌∙◌, Some, sym, ap, rules, string_bytes}
use Rattle.office_tables.specs.Prelude.{Tables, order_at}
use Rattle.office_commands.specs.Prelude.{acceptance}
use Rattle.office_rules.specs.Prelude.{next_of, body_with}
use Rattle.office_judges.proofs.Judged.{order_shown}
use Rattle.office_judges.proofs.order.show_order.Goals as goal

pub returns : goal.returns
returns g c = record {
  read_only = search rules;
  stays_open = search rules;
  answer = λ is seat.
      let s = c.args.customer.now in
      let t = g.K.Keep.tables c.args.keep.now in
      let o = c.in-Some.order in
      let before = c.body_with_next.ensures.read_only.was_open is in
      let there : order_at s.name c.args.name.now t ≡ Some o =
      sym (rw c.name.ensures at (c.in_ok-order.ensures.answer before)) ∙ c.in-Some.is in
      let body = c.in_ok-body_with_next.field-0 in
      let shown : string_bytes body ≡ body_with o.row (next_of t o.row) =
      c.in_ok-body_with_next.ensures.answer is
      ∙ ap (λ (u : Tables). body_with o.row (next_of u o.row))
      (c.order.ensures.read_only.same before) in
      rw there (c.accepted.ensures ∙ ap acceptance shown ∙ order_shown s seat t o);
}
