use Rattle.yield_counts.proofs.Columned.{columns_set}
use Rattle.yield_counts.proofs.columns.OrderColumns.set.Goals as goal

pub returns : goal.returns
returns c = columns_set c.args.order.now c.args.numbers c.args.self.now (record { orders = c.insert.new.self }) c.in_ok-insert.ensures.updates.0
