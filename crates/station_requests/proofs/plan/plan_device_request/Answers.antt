use Rattle.std.proofs.Common.{sym}
use Rattle.station_requests.proofs.Wishes.{plan_lacks_float}
use Rattle.station_requests.proofs.plan.plan_device_request.Goals as goal

pub act_request-requires : goal.act_request-requires
act_request-requires c = plan_lacks_float _ _ _ (sym c.in_ok-wishes.ensures) (sym c.in_ok-members.ensures)
