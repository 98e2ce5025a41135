use Rattle.std.proofs.Common.{sym, ap, ◌∙◌, option_map}
use Rattle.serde_json.specs.View.{view}
use Rattle.station_requests.proofs.Members.{map_lacks_float}
use Rattle.station_requests.proofs.map.import_map_request.Goals as goal

pub request_for-requires : goal.request_for-requires
request_for-requires c = rw c.in_ok-members.ensures
    (map_lacks_float (view c.args.value.now) _ (sym c.text_member.ensures ∙ ap (option_map (λ text. text.now)) c.in_ok-text.ensures.ok_part))
