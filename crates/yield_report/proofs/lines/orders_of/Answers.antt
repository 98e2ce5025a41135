use Rattle.std.proofs.Common.{ap, is_some, rules}
use Rattle.yield_report.proofs.Gathered.{orders_gathered}
use Rattle.yield_report.proofs.lines.orders_of.Goals as goal

pub returns-in-None : goal.returns-in-None
returns-in-None g c = record {
  read_only = search rules;
  stays_open = search rules;
  answer = λ is. rw c.new.ensures.items at (orders_gathered _ _ _ (c.in_ok-visit_orders.ensures.answer is) (ap is_some c.in-None.is));
}
