use Rattle.std.proofs.Common.{rules}
use Rattle.office_judges.proofs.page.fill_page.Goals as goal

pub returns-in-None : goal.returns-in-None
returns-in-None g c = record {
  read_only = search rules;
  stays_open = search rules;
  answer = λ is. rw c.in-None.is (c.visit_devices.ensures.answer is);
}

pub returns-in-Some : goal.returns-in-Some
returns-in-Some g c = record {
  read_only = search rules;
  stays_open = search rules;
  answer = λ is. rw c.in-Some.is (c.visit_devices_behind.ensures.answer is);
}
