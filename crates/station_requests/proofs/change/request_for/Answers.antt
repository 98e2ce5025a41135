use Rattle.std.proofs.Common.{sym, ◌∙◌, codes}
use Rattle.serde_json.specs.View.{view}
use Rattle.station_requests.proofs.Members.{whole_member_lacks}
use Rattle.station_requests.proofs.change.request_for.Goals as goal

pub request_digest-requires : goal.request_digest-requires
request_digest-requires c =
    c.requires (whole_member_lacks (codes "nr") 1 9007199254740991 (view c.args.value.now) _ (sym c.number_member.ensures.value ∙ c.in_ok-number.ensures.ok_part))
