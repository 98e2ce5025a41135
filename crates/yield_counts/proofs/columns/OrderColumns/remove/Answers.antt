use Rattle.std.proofs.Common.{◌≡◌, ◌∙◌, ap, refl, rules, sym, length}
use Rattle.std.proofs.lemmas.Result.{on_ok_weaker}
use Rattle.yield_counts.proofs.Columned.{one_less}
use Rattle.yield_counts.proofs.columns.OrderColumns.remove.Goals as goal

pub returns : goal.returns
returns c =
    let d = c.args.device.now in
    let seven : length c.of_order-numbers.result ≡ 7 = search rules in
    on_ok_weaker c.set.result (λ set. one_less d c.args.self.now c.set.new.self _ (sym (ap length c.of_order-numbers.ensures) ∙ seven) set
    (rw (← c.of_order-numbers.ensures, ← c.row-column.ensures.column, ← c.saturating_sub.ensures) refl)) c.set.ensures
