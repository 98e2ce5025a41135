use Rattle.std.proofs.Common.{◌≡◌, ◌∙◌, ap, arith, is_some, refl, rules, sym, true}
use Rattle.id_ranges.specs.Prelude.{serial_text}
use Rattle.office_rules.specs.Prelude.{is_taken}
use Rattle.office_tables.proofs.Reading.{reads_more}
use Rattle.office_judges.proofs.Runs.{behind_is_given, run_ends}
use Rattle.office_judges.proofs.serials.end_of_given.Goals as goal

pub returns-then-is_none-clause-reads : goal.returns-then-is_none-clause-reads
returns-then-is_none-clause-reads g c = record {
  read_only = c.given.ensures.read_only;
  stays_open = search rules;
  answer = λ is. record {
    all = λ k low high. absurd (omega arith);
    none = λ _. rw (← c.text-serial.ensures, ← c.as_str.ensures.same) (ap is_some (sym (c.in_ok-given.ensures.answer is)) ∙ c.if-is_none.ensures);
  };
}

pub returns-clause-reads : goal.returns-clause-reads
returns-clause-reads g c = record {
  read_only = reads_more c.given.ensures.read_only c.visit_serials_behind.ensures.read_only;
  stays_open = search rules;
  answer = λ is.
      let t = g.K.Keep.tables c.args.keep.now in
      let issuer = c.args.issuer.now in
      let range = c.args.range.now in
      let before = c.visit_serials_behind.ensures.read_only.was_open is in
      let there : is_taken t issuer (serial_text range c.args.number) ≡ true =
      rw (← c.text-serial.ensures, ← c.as_str.ensures.same) (ap is_some (sym (c.in_ok-given.ensures.answer before)) ∙ c.if-is_none.ensures) in
      let visits = rw (c.given.ensures.read_only.same before) at (c.in_ok-visit_serials_behind.ensures.answer is) in
      let are = behind_is_given issuer c.text-serial.result t.given t.given (λ test found. found) in
      run_ends (is_taken t issuer) range c.args.number _ _ _ _ refl refl there visits are (omega (arith, c.clamp.ensures)) (λ far.
      omega (arith, c.clamp.ensures, far));
}
