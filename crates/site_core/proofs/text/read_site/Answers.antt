use Rattle.text_core.proofs.Kit.{arith, common_steps}
use Rattle.site_core.proofs.Reading.{valid_from_exact, refused_from_exact, lowest_from_exact}
use Rattle.site_core.proofs.text.read_site.Goals as goal

pub returns-clause-exact : goal.returns-clause-exact
returns-clause-exact c = grind (arith, common_steps)

pub returns-clause-valid : goal.returns-clause-valid
returns-clause-valid c = valid_from_exact c.args.text.now c.judged_site.result (returns-clause-exact c)

pub returns-clause-refused : goal.returns-clause-refused
returns-clause-refused c = refused_from_exact c.args.text.now c.judged_site.result (returns-clause-exact c)

pub returns-clause-lowest : goal.returns-clause-lowest
returns-clause-lowest c = lowest_from_exact c.args.text.now c.judged_site.result (returns-clause-exact c)
