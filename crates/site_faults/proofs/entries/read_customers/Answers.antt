use Rattle.toml.specs.View.{view}
use Rattle.text_core.proofs.Lists.{all_of_more, all_of_stop}
use Rattle.members.proofs.Reading.{stopped_at, wanted_from_given}
use Rattle.site_core.specs.Prelude.{customer_in}
use Rattle.site_faults.proofs.entries.read_customers.Goals as goal

pub returns-in_err-customer : goal.returns-in_err-customer
returns-in_err-customer c =
    stopped_at _ _ _ _ _ _ c.from_residual.result c.from_residual.ensures.1
    (λ none. all_of_stop customer_in view _ _ _ c.loop-value-test.true c.value-item.is none) c.in_err-customer.ensures

pub loop-value-preserved : goal.loop-value-preserved
loop-value-preserved c =
    rw c.in_ok-push.ensures.items
    (all_of_more customer_in view _ _ _ _ _ c.loop-value-test.true c.value-item.is c.loop-value.invariant
    (wanted_from_given _ _ _ _ c.in_ok-customer.ensures))
