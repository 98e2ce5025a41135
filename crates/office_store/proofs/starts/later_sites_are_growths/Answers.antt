use Rattle.std.proofs.Common.{◌≡◌, ◌∙◌, sym, subst}
use Rattle.site_core.specs.Prelude.{SiteValue}
use Rattle.site_core.proofs.Reading.{read-from_IsSiteText}
use Rattle.site_core.specs.Prelude.{IsGrowth}
use Rattle.office_store.proofs.starts.later_sites_are_growths.Goals as goal

pub returns : goal.returns
returns c = λ left db before after is_text holds tells takes.
    let grown = takes db holds before.text tells in
    let read = sym grown.1 ∙ read-from_IsSiteText before.text before.site is_text in
    let same : grown.0 ≡ before.site = cc in
    subst (λ (site : SiteValue). IsGrowth site after.site) same grown.2
