use Rattle.std.proofs.Common.{sym}
use Rattle.station_requests.proofs.Members.{device_lacks_float}
use Rattle.station_requests.proofs.device.register_device_request.Goals as goal

pub request_for-requires : goal.request_for-requires
request_for-requires c = rw c.in_ok-members.ensures (device_lacks_float _ _ (sym c.in_ok-device.ensures))
