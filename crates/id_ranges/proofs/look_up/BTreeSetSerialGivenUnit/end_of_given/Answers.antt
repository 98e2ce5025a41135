use Rattle.std.proofs.Common.{◌≡◌, ◌∙◌, arith, sym}
use Rattle.id_ranges.proofs.look_up.BTreeSetSerialGivenUnit.end_of_given.Goals as goal

pub returns-then-contains-clause-answer : goal.returns-then-contains-clause-answer
returns-then-contains-clause-answer c = λ _. record {
  all = λ k low high.
      let here : k ≡ c.args.number = omega (arith, c.min.ensures) in
      rw (here, ← c.text.ensures) (sym c.contains.ensures ∙ c.if-contains.true);
  none = λ same. absurd (omega (arith, c.min.ensures, c.requires));
}

pub returns-else-contains-clause-answer : goal.returns-else-contains-clause-answer
returns-else-contains-clause-answer c = λ _. record {
  all = λ k low high. absurd (omega arith);
  none = λ _. rw (← c.text.ensures) (sym c.contains.ensures ∙ c.if-contains.false);
}
