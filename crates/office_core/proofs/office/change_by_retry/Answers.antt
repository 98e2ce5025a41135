use Rattle.std.proofs.Common.{◌∙◌, sym, rules, inl, inr}
use Rattle.office_core.proofs.CarriedOut.{last_behind}
use Rattle.office_core.proofs.office.change_by_retry.Goals as goal

pub returns-in-Next : goal.returns-in-Next
returns-in-Next g c = record {
  was_open = search rules;
  was_honest = search rules;
  stays_open = search rules;
  change = λ is.
      let first = c.make.ensures.was_open is in
      let same = c.find_retry.ensures.read_only.same first in
      let next = sym (c.in_ok-body.ensures.answer first) ∙ c.in-Next.is in
      rw (next, ← same) (c.make.ensures.change is);
  crash = λ honest t left.
      let reads = c.find_retry.ensures.read_only in
      elim (c.make.ensures.crash honest t left) [
        | inl old ↦ inl (reads.crash (c.make.ensures.was_honest honest) t old)
        | inr made ↦ let next = sym (c.in_ok-body.ensures.answer made.0) ∙ c.in-Next.is in
            inr (reads.was_open made.0, made.1, rw (next, ← reads.same made.0) made.2)
      ];
  text = λ honest text told.
      c.make.ensures.text honest text (c.find_retry.ensures.read_only.text (c.make.ensures.was_honest honest) text told);
  commits =
      let reads = c.find_retry.ensures.read_only in
      last_behind g.K.Keep _ _ _ _ _ reads.uncommitted c.make.ensures.commits
      (λ is puts.
      let next = sym (c.in_ok-body.ensures.answer is) ∙ c.in-Next.is in
      (reads.was_open is, rw (next, ← reads.same is) puts));
}
