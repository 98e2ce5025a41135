use Rattle.std.proofs.Common.{◌≡◌, ◌∙◌, ◌++◌, List, length, sym, ap}
use Rattle.std.proofs.lemmas.List.{length-map}
use Rattle.office_tables.proofs.Placing.{all_map}
use Rattle.http_replies.specs.declared.Reply.{Reply}
use Rattle.site_core.proofs.Owners.{owners_apart}
use Rattle.site_core.specs.Prelude.{ownership_of}
use Rattle.office_laws.proofs.Promising.{promises}
use Rattle.office_laws.proofs.Seats.{IsSeatOf, all_seats}
use Rattle.office_laws.proofs.Stopping.{seats_grown}
use Rattle.office_laws.specs.Prelude.{IsSeat}
use Rattle.office_core.specs.Prelude.{call_of, calls_in, exchanges_in}
use Rattle.office_core.proofs.Replaying.{exchanges_calls}
use Rattle.office_core.proofs.requests.replay.Goals as goal

pub returns-clause-count : goal.returns-clause-count
returns-clause-count g c =
    let run = c.answer_all.ensures.run in
    let is : c.answer_all.new.replies.items ≡ run.0 = run.1 ∙ ap (λ (rs : List Reply). rs ++ run.0) c.in_ok-replies.ensures.items in
    ap length is ∙ run.2

pub returns-clause-apart : goal.returns-clause-apart
returns-clause-apart g c = owners_apart c.args.site.now c.answer_all.ensures.site

pub returns-clause-seats : goal.returns-clause-seats
returns-clause-seats g c =
    let owners = ownership_of c.args.site.now in
    all_map (IsSeatOf owners) (IsSeat owners) (λ _ both. both.1) (calls_in c.args.site.now c.args.requests.now) c.answer_all.ensures.seats

pub returns-clause-run : goal.returns-clause-run
returns-clause-run g c = λ honest t stands.
    let run = c.answer_all.ensures.run in
    let is : c.answer_all.new.replies.items ≡ run.0 = run.1 ∙ ap (λ (rs : List Reply). rs ++ run.0) c.in_ok-replies.ensures.items in
    let site = c.args.site.now in
    let owners = ownership_of site in
    let calls = calls_in site c.args.requests.now in
    let made = run.3 honest t stands in
    let each = exchanges_calls calls run.0 (run.2 ∙ sym (length-map c.args.requests.now (call_of site))) in (
      made.0,
      rw is made.1,
      λ first begun sound.
          rw is (promises first (exchanges_in site c.args.requests.now run.0)
          owners t made.0 sound
          (rw each (seats_grown first owners begun calls owners
          (all_seats owners calls c.answer_all.ensures.seats))) made.1.run),
    )
