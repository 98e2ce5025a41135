use Rattle.site_core.proofs.Kept.{owners_grown}
use Rattle.site_core.proofs.ownership.owners_grow_with_a_site.Goals as goal

pub returns : goal.returns
returns c = owners_grown
