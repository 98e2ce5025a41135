use Rattle.std.proofs.Common.{◌∙◌, arith, lit≤, rules}
use Rattle.office_judges.proofs.Links.{counted}
use Rattle.office_judges.proofs.map.count_links.Goals as goal

pub returns : goal.returns
returns g c = record {
  read_only = search rules;
  stays_open = search rules;
  answer = λ is. counted _ _ _ (lit≤ tt) (c.in_ok-visit_links.ensures.answer is) ∙ omega arith;
}
