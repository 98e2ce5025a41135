use Rattle.office_store.proofs.adopting.judge_text.Goals as goal

pub returns-in_default-clause-other_tables : goal.returns-in_default-clause-other_tables
returns-in_default-clause-other_tables c = λ same text utf8 shown. c.in_default.ensures.none text utf8 shown.0
