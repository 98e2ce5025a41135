use Rattle.serde_json.specs.View.{view}
use Rattle.station_requests.proofs.Wishes.{read_back_lacks_float}
use Rattle.station_requests.proofs.read_back.read_back_request.Goals as goal

pub act_request-requires : goal.act_request-requires
act_request-requires c = rw c.in_ok-members.ensures (read_back_lacks_float (view c.args.value.now) _)
