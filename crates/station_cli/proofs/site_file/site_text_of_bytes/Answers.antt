use Rattle.std.proofs.Common.{◌≡◌, refl}
use Rattle.text_core.specs.Prelude.{result_map}
use Rattle.site_core.specs.Prelude.{TextOfSite, site_read, site_text_limit}
use Rattle.site_core.specs.declared.fault.SiteFault.TheVariants.{OutOfMemory, OverLimit}
use Rattle.station_cli.proofs.FileTexts.{given_of_text, part_passed, text_is_bytes, value_passed}
use Rattle.station_cli.specs.Prelude.{site_failure}
use Rattle.station_cli.proofs.site_file.site_text_of_bytes.Goals as goal

pub returns-clause-site : goal.returns-clause-site
returns-clause-site c =
    let site = λ (t : TextOfSite). t.site in
    given_of_text site_failure OutOfMemory site_read _ c.in_ok-text.text.now
    (result_map site c.read_site_text.result) (result_map site c.map_err.result) refl
    (rw c.site_failure-too_long.ensures at c.in_ok-text.ensures) c.read_site_text.ensures.site
    (part_passed site site_failure c.read_site_text.result c.map_err.result c.map_err.ensures.cases)

pub returns-clause-text : goal.returns-clause-text
returns-clause-text c =
    let same = text_is_bytes c.args.name c.args.bytes.now c.in_ok-text.text.now site_text_limit (site_failure OverLimit)
    (rw c.site_failure-too_long.ensures at c.in_ok-text.ensures) in
    value_passed site_failure (λ (t : TextOfSite). t.text ≡ c.args.bytes.now) c.read_site_text.result c.map_err.result c.map_err.ensures.cases
    (rw same at c.read_site_text.ensures.text)
