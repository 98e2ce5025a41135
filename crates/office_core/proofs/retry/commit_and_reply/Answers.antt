use Rattle.std.proofs.Common.{inr, refl, rules}
use Rattle.http_replies.specs.Prelude.{answer_of}
use Rattle.office_core.proofs.CarriedOut.{or_then}
use Rattle.office_core.proofs.retry.commit_and_reply.Goals as goal

pub returns : goal.returns
returns g c = record {
  was_open = search rules;
  was_honest = search rules;
  stays_open = search rules;
  change = λ is. (c.in_ok-commit.ensures.ok is, refl);
  crash = λ honest t left.
      or_then (c.commit.ensures.crash honest t left)
      (λ all. (c.requires.open (c.commit.ensures.was_honest honest), answer_of c.args.reply, (all, refl)));
  text = c.commit.ensures.text;
  commits =
      inr (record {
        once = c.commit.ensures.counted;
        last = c.commit.ensures.last;
        puts = λ honest. (c.requires.open (c.commit.ensures.was_honest honest), tt);
      });
}

pub returns-in_err-commit : goal.returns-in_err-commit
returns-in_err-commit g c = record {
  was_open = search rules;
  was_honest = search rules;
  stays_open = search rules;
  change = search rules;
  crash = λ honest t left.
      or_then (c.commit.ensures.crash honest t left)
      (λ all. (c.requires.open (c.commit.ensures.was_honest honest), answer_of c.args.reply, (all, refl)));
  text = c.commit.ensures.text;
  commits =
      inr (record {
        once = c.commit.ensures.counted;
        last = c.commit.ensures.last;
        puts = λ honest. (c.requires.open (c.commit.ensures.was_honest honest), tt);
      });
}
