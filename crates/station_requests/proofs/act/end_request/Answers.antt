use Rattle.serde_json.specs.View.{view}
use Rattle.station_requests.proofs.Wishes.{act_members_lack}
use Rattle.station_requests.proofs.act.end_request.Goals as goal

pub act_request-requires : goal.act_request-requires
act_request-requires c = rw c.in_ok-members.ensures (act_members_lack (view c.args.value.now))
