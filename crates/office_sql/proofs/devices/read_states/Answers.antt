-- One row more is read.
use Rattle.std.proofs.Common.{◌∙◌, ◌<◌, length, arith}
use Rattle.office_sql.specs.Prelude.{order_state_in}
use Rattle.office_sql.proofs.DeviceTexts.{one_more}
use Rattle.office_sql.proofs.devices.read_states.Goals as goal

pub loop-row-preserved : goal.loop-row-preserved
loop-row-preserved c =
    let within : c.loop-row.row-index < length c.args.rows.now = omega arith in
    c.in_ok-push.ensures.items
    ∙ one_more order_state_in c.args.rows.now c.loop-row.row-index c.row-item.result
    c.loop-row.states.items c.in_ok-read_state.field-0 within c.row-item.is c.loop-row.invariant
    c.in_ok-read_state.ensures
