use Rattle.std.proofs.Common.{sym, ◌∙◌, codes}
use Rattle.serde_json.specs.View.{view}
use Rattle.text_core.specs.Prelude.{chip_of_text}
use Rattle.station_requests.proofs.Members.{read_member_lacks}
use Rattle.station_requests.proofs.act.act_request.Goals as goal

pub request_for-requires : goal.request_for-requires
request_for-requires c =
    c.requires (read_member_lacks chip_of_text (codes "chip") (view c.args.value.now) _ (sym c.chip_member.ensures ∙ c.in_ok-chip.ensures.ok_part))
