use Rattle.std.proofs.Common.{◌≡◌, ◌∙◌, ap, arith, cond, is_some, refl, rules}
use Rattle.id_ranges.specs.Prelude.{serial_text}
use Rattle.office_tables.specs.Prelude.{given_at}
use Rattle.office_tables.proofs.Reading.{reads_more}
use Rattle.yield_counts.proofs.Between.{bit_is, left_walked}
use Rattle.yield_counts.proofs.walks.count_left.Goals as goal

pub returns : goal.returns
returns g c = record {
  read_only = reads_more c.in_ok-given.ensures.read_only c.in_ok-visit_serials_behind.ensures.read_only;
  stays_open = search rules;
  answer = λ is.
      let r = c.args.range.now in
      let issuer = c.args.issuer.now in
      let was = c.in_ok-visit_serials_behind.ensures.read_only.was_open is in
      let same = c.in_ok-given.ensures.read_only.same was in
      let ascending = c.fact_ascending.ensures (c.in_ok-given.ensures.read_only.was_open was) in
      let first : c.text-first.result ≡ serial_text r r.first = c.text-first.ensures ∙ ap (serial_text r) c.first.ensures.same in
      let t = g.K.Keep.tables c.args.keep.now in
      let found = c.in_ok-given.ensures.answer was in
      let one : c.from.result ≡ cond (is_some (given_at issuer (serial_text r r.first) t)) 1 0 =
      bit_is c.is_some-is_given.result c.from.result c.from.ensures ∙ ap (λ b. cond b 1 0)
      (c.is_some-is_given.ensures ∙ ap is_some (found ∙ ap (λ s. given_at issuer s t) (c.as_str.ensures.same ∙ first))) in
      let visits = rw (same, first) at (c.in_ok-visit_serials_behind.ensures.answer is) in
      let last = c.text.ensures ∙ ap (serial_text r) (omega (arith, c.first-2.ensures.same, c.quantity.ensures.same)) in
      left_walked r c.first.ensures.range issuer t ascending.given _ c.visit_serials_behind.new.sink refl last
      (omega (arith, c.quantity-2.ensures.same, one)) visits;
}
