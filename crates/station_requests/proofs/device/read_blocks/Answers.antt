use Rattle.text_core.proofs.Kit.{sym, map-append}
use Rattle.serde_json.specs.View.{view}
use Rattle.text_core.proofs.Lists.{all_of_more, all_of_stop}
use Rattle.station_requests.specs.Prelude.{block_in}
use Rattle.station_requests.proofs.Reading.{stopped}
use Rattle.station_requests.proofs.device.read_blocks.Goals as goal

pub returns-in_err-words : goal.returns-in_err-words
returns-in_err-words c =
    stopped _ c.from_residual.result c.from_residual.ensures.1
    (λ none. all_of_stop block_in view _ _ _ c.loop-value-test.true c.value-item.is none) c.in_err-words.ensures

pub loop-value-preserved : goal.loop-value-preserved
loop-value-preserved c =
    rw (c.in_ok-push.ensures.items, map-append)
    (all_of_more block_in view _ _ _ _ _ c.loop-value-test.true c.value-item.is c.loop-value.invariant (sym c.in_ok-words.ensures))
