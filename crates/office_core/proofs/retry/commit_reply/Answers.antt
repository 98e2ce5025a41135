use Rattle.std.proofs.Common.{◌≡◌, ◌∙◌, string_bytes}
use Rattle.std.proofs.lemmas.Result.{MatchResult-weaker}
use Rattle.office_tables.proofs.Writing.{CanWrite_push}
use Rattle.office_core.proofs.CarriedOut.{commits_reply, or_then}
use Rattle.office_core.proofs.retry.commit_reply.Goals as goal

pub commit_and_reply-requires-clause-can_write : goal.commit_and_reply-requires-clause-can_write
commit_and_reply-requires-clause-can_write g c = λ is.
    rw (c.deref.ensures.value, c.in_ok-push.ensures.items) (CanWrite_push _ _ _ (c.requires.can_write is) (λ _ _. tt))

pub returns : goal.returns
returns g c =
    let reply : c.in_ok-copy_of.field-0 ≡ string_bytes c.args.judged.body = c.in_ok-copy_of.ensures ∙ c.as_str.ensures.value in
    let made = c.commit_and_reply.ensures in
    record {
      was_open = made.was_open;
      was_honest = made.was_honest;
      stays_open = made.stays_open;
      change = λ is.
          MatchResult-weaker c.commit_and_reply.result (made.change is) (λ said all. (
            commits_reply c.args.customer.now c.args.seat.now c.args.request.now c.args.judged _ _ _ _ c.value.ensures.same reply
                (rw (c.deref.ensures.value, c.in_ok-push.ensures.items) at all.0),
            all.1 ∙ c.accepted.ensures,
          )) (λ _ same. same);
      crash = λ honest t left.
          or_then (made.crash honest t left) (λ all. (
            all.0,
            all.1,
            (
              commits_reply c.args.customer.now c.args.seat.now c.args.request.now c.args.judged _ _ _ _ c.value.ensures.same reply
                  (rw (c.deref.ensures.value, c.in_ok-push.ensures.items) at all.2.0),
              all.2.1 ∙ c.accepted.ensures,
            ),
          ));
      text = made.text;
      commits = made.commits;
    }
