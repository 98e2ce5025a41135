use Rattle.std.proofs.Common.{◌≡◌, ◌∙◌, refl, subst, sym}
use Rattle.text_core.proofs.Kit.{∥∥₁_map}
use Rattle.sqlite.specs.Files.{over_files}
use Rattle.site_core.specs.Prelude.{IsGrowth, SiteValue}
use Rattle.site_core.proofs.Reading.{read-from_IsSiteText}
use Rattle.office_store.specs.Prelude.{tables_of}
use Rattle.office_store.specs.Prelude.{TakesGrowth}
use Rattle.station_cli.proofs.LeftFiles.{left_clean, left_told}
use Rattle.station_cli.proofs.lives.later_starts_are_of_growths.Goals as goal

pub returns : goal.returns
returns g c = λ site next absent files served is_text found.
    let honest = left_clean served.last files (TakesGrowth next.site) served.leaves found in
    let clean = served.was_honest honest in
    let opened = served.opens.opened in
    let shows = (opened.shows clean).found.2 in
    let told = c.opened_stores_tell_their_text.ensures served.opened.conn site (opened.left clean) shows.taken.tells.holds shows.same_site in
    let led = served.leads.2 honest (tables_of over_files served.opened.conn) (λ _. refl) in
    let tells = led.1.answered.text honest site.text told in
    ∥∥₁_map (left_told served.last files site.text (TakesGrowth next.site) served.leaves tells found) (λ it.
    let grown = it.2 site.text it.1 in
    let read = sym grown.1 ∙ read-from_IsSiteText site.text site.site is_text in
    let same : grown.0 ≡ site.site = cc in
    subst (λ (s : SiteValue). IsGrowth s next.site) same grown.2)
