use Rattle.office_judges.proofs.judgement.judge.Goals as goal

pub returns-in-MakeOrder : goal.returns-in-MakeOrder
returns-in-MakeOrder g c = record {
  read_only = c.judge_order.ensures.read_only;
  stays_open = c.judge_order.ensures.stays_open;
  answer = λ is. rw c.in-MakeOrder.is (c.judge_order.ensures.answer is c.args.seat.now);
}

pub returns-in-ImportMap : goal.returns-in-ImportMap
returns-in-ImportMap g c = record {
  read_only = c.judge_map.ensures.read_only;
  stays_open = c.judge_map.ensures.stays_open;
  answer = λ is. rw c.in-ImportMap.is (c.judge_map.ensures.answer is c.args.seat.now);
}

pub returns-in-Import : goal.returns-in-Import
returns-in-Import g c = record {
  read_only = c.judge_import.ensures.read_only;
  stays_open = c.judge_import.ensures.stays_open;
  answer = λ is. rw c.in-Import.is (c.judge_import.ensures.answer is c.args.seat.now);
}
