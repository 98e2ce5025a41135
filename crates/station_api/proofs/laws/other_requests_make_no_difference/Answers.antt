use Rattle.std.proofs.Common.{subst}
use Rattle.site_core.specs.Prelude.{Section}
use Rattle.office_laws.specs.Prelude.{IsAsAlone}
use Rattle.office_laws.proofs.RunLaws.{same_from_same}
use Rattle.station_api.specs.Prelude.{section_exchanges, HasSection, SiteRun}
use Rattle.station_api.proofs.KeptRuns.{run_kept}
use Rattle.station_api.proofs.laws.other_requests_make_no_difference.Goals as goal

alone_in : (section : Section) (r : SiteRun) → HasSection r.site section
    → IsAsAlone section.name (section_exchanges section r.exchanges) r.old r.new
alone_in section r has =
    subst (λ (s : Section). IsAsAlone s.name (section_exchanges s r.exchanges) r.old r.new) has.2
    ((run_kept r).isolated has.0 has.1)

pub returns : goal.returns
returns c = λ section r other here there alike.
    same_from_same section.name (section_exchanges section r.exchanges) r.old r.new
    (section_exchanges section other.exchanges) other.old other.new (alone_in section r here)
    (alone_in section other there) alike.0 alike.1
