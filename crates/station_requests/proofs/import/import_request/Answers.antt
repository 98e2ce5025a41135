use Rattle.std.proofs.Common.{sym}
use Rattle.station_requests.proofs.Identities.{import_lacks_float}
use Rattle.station_requests.proofs.import.import_request.Goals as goal

pub request_for-requires : goal.request_for-requires
request_for-requires c = rw c.in_ok-members.ensures (import_lacks_float _ _ (sym c.in_ok-import.ensures))
