use Rattle.std.proofs.Common.{◌≡◌, ◌∙◌, ap, rules, sym, length}
use Rattle.std.proofs.lemmas.Result.{on_ok_weaker}
use Rattle.yield_counts.proofs.Columned.{counted_one, one_more}
use Rattle.yield_counts.proofs.columns.OrderColumns.add.Goals as goal

pub returns : goal.returns
returns c =
    let d = c.args.device.now in
    let seven : length c.of_order.result ≡ 7 = search rules in
    let more = counted_one d.state c.of_order.result _ (sym c.with_one.ensures ∙ c.in-Some.is) in
    on_ok_weaker c.set.result (λ set. one_more d c.args.self.now c.set.new.self _ (sym (ap length c.of_order.ensures) ∙ seven) set
    (rw (← c.of_order.ensures) more)) c.set.ensures
