use Rattle.text_core.proofs.Kit.{sym}
use Rattle.serde_json.specs.View.{view}
use Rattle.text_core.proofs.Lists.{all_of_more, all_of_stop}
use Rattle.seat_ask.specs.Prelude.{asked_in}
use Rattle.seat_ask.proofs.Faults.{stopped}
use Rattle.seat_ask.proofs.reading.all_asked.Goals as goal

pub returns-in_err-asked : goal.returns-in_err-asked
returns-in_err-asked c =
    stopped _ c.from_residual.result c.from_residual.ensures.1
    (λ none. all_of_stop asked_in view _ _ _ c.loop-value-test.true c.value-item.is none) c.in_err-asked.ensures

pub loop-value-preserved : goal.loop-value-preserved
loop-value-preserved c =
    rw c.in_ok-push.ensures.items
    (all_of_more asked_in view _ _ _ _ _ c.loop-value-test.true c.value-item.is c.loop-value.invariant (sym c.in_ok-asked.ensures))
