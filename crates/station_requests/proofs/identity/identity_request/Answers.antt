use Rattle.std.proofs.Common.{sym}
use Rattle.station_requests.proofs.Identities.{identity_lacks_float}
use Rattle.station_requests.proofs.identity.identity_request.Goals as goal

pub request_for-requires : goal.request_for-requires
request_for-requires c = rw c.in_ok-members.ensures (identity_lacks_float _ _ (sym c.in_ok-identity.ensures))
