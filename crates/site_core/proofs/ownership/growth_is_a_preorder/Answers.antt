use Rattle.site_core.proofs.Preorder.{growth_again, growth_itself}
use Rattle.site_core.proofs.ownership.growth_is_a_preorder.Goals as goal

pub returns-clause-itself : goal.returns-clause-itself
returns-clause-itself c = growth_itself

pub returns-clause-again : goal.returns-clause-again
returns-clause-again c = growth_again
