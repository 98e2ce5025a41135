use Rattle.text_core.proofs.Kit.{sym, map-append}
use Rattle.serde_json.specs.View.{view}
use Rattle.text_core.proofs.Lists.{all_of_more, all_of_stop}
use Rattle.station_requests.specs.Prelude.{named_wish}
use Rattle.station_requests.proofs.Reading.{stopped}
use Rattle.station_requests.proofs.plan.named_wishes.Goals as goal

pub returns-in_err-wish : goal.returns-in_err-wish
returns-in_err-wish c =
    stopped _ c.from_residual.result c.from_residual.ensures.1
    (λ none. all_of_stop named_wish view _ _ _ c.loop-value-test.true c.value-item.is none) c.in_err-wish.ensures

pub loop-value-preserved : goal.loop-value-preserved
loop-value-preserved c =
    rw (c.in_ok-push.ensures.items, map-append)
    (all_of_more named_wish view _ _ _ _ _ c.loop-value-test.true c.value-item.is c.loop-value.invariant (sym c.in_ok-wish.ensures))
