use Rattle.std.proofs.Common.{rules}
use Rattle.yield_counts.proofs.Walked.{devices_counted}
use Rattle.yield_counts.proofs.walks.count_devices.Goals as goal

pub returns-in-None : goal.returns-in-None
returns-in-None g c = record {
  read_only = search rules;
  stays_open = search rules;
  answer = λ is.
      let visits = c.in_ok-visit_devices.ensures.answer is in
      devices_counted c.args.customer.now _ _ _ visits c.in-None.is c.new.ensures;
}
