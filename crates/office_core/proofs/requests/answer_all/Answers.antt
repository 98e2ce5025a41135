use Rattle.std.proofs.Common.{◌≡◌, ◌∙◌, ◌+◌, ◌++◌, List, [], ◌∷◌, append_assoc, map, take, refl, sym, subst, ap, arith, zip, append-nil, take_all, inl, inr}
use Rattle.std.proofs.lemmas.List.{length-map, map-append, take_more}
use Rattle.http_replies.specs.Prelude.{answer_of}
use Rattle.http_replies.specs.declared.Reply.{Reply}
use Rattle.site_core.specs.Prelude.{section_at, seat_name_at, ownership_of}
use Rattle.office_tables.specs.Prelude.{Tables}
use Rattle.office_rules.specs.Prelude.{Step}
use Rattle.office_laws.specs.Prelude.{Exchange}
use Rattle.office_laws.proofs.Leaving.{leaves_more, leaves_none}
use Rattle.office_laws.proofs.Seats.{run_more, seats_joined_more}
use Rattle.office_core.specs.Prelude.{call_of, calls_in}
use Rattle.office_core.proofs.Replaying.{exchanges_more, lengths_more}
use Rattle.office_core.proofs.requests.answer_all.Goals as goal

pub loop-asked-init : goal.loop-asked-init
loop-asked-init g c = record {
  taken = omega arith;
  capacity = omega arith;
  was_open = λ is. is;
  was_honest = λ is. is;
  seats = tt;
  run = (
    [],
    sym (append-nil c.args.replies.now.items),
    refl,
    λ _ t stands. (
      t,
      record {
        run = refl;
        crash = leaves_none (g.K.Keep.may_leave c.args.keep.now) t;
        text = λ _ _ told. told;
        stands = stands;
      },
    ),
  );
}

pub loop-asked-preserved : goal.loop-asked-preserved
loop-asked-preserved g c =
    let site = c.args.site.now in
    let asked = c.asked-item.result in
    let reply = c.answer.result in
    let index = c.loop-asked.asked-index in
    let calls = calls_in site (take index c.args.requests.now) in
    let so_far = c.loop-asked.invariant.run in
    let xs : List Exchange = zip calls (map answer_of so_far.0) in
    let x : Exchange = (call_of site asked, answer_of reply) in
    let more = take_more c.args.requests.now index asked c.loop-asked-test.true in
    let calls_more : calls_in site (take (index + 1) c.args.requests.now) ≡ calls ++ call_of site asked ∷ [] = rw (more, ← c.asked-item.is, map-append) refl in
    let joined : zip (calls ++ call_of site asked ∷ []) (map answer_of (so_far.0 ++ reply ∷ []))
    ≡ xs ++ x ∷ [] = exchanges_more calls so_far.0 (call_of site asked) reply so_far.2 in
    record {
      taken = omega (arith, c.loop-asked.invariant.taken, c.in_ok-push.ensures.len);
      capacity = omega (arith, c.in_ok-push.ensures.capacity, c.loop-asked.invariant.capacity);
      was_open = λ is. c.loop-asked.invariant.was_open (c.answer.ensures.was_open is);
      was_honest = λ is. c.loop-asked.invariant.was_honest (c.answer.ensures.was_honest is);
      seats = rw calls_more
          (seats_joined_more (ownership_of site) calls (call_of site asked)
          c.loop-asked.invariant.seats (c.fact_seat.ensures.apart, c.fact_seat.ensures.seat));
      run = (
        so_far.0 ++ reply ∷ [],
        c.in_ok-push.ensures.items ∙ (ap (λ (rs : List Reply). rs ++ reply ∷ []) so_far.1 ∙ append_assoc c.args.replies.now.items so_far.0 (reply ∷ [])),
        rw calls_more (lengths_more calls so_far.0 (call_of site asked) reply so_far.2),
        λ is t stands.
            let first = so_far.3 (c.answer.ensures.was_honest is) t stands in
            let step = c.answer.ensures.step is first.0 first.1.stands in (
              step.0,
              record {
                run = rw (calls_more, joined) (run_more xs x t first.0 step.0 first.1.run step.1);
                crash = rw (calls_more, joined)
                    (leaves_more xs x asked.request t first.0 step.0
                    (g.K.Keep.may_leave c.args.keep.now) (g.K.Keep.may_leave c.loop-asked.keep)
                    (g.K.Keep.may_leave c.answer.new.keep) (g.K.Keep.is_open c.answer.new.keep)
                    refl step.1 first.1.crash (c.answer.ensures.stays_open is)
                    (λ opened left leaves. g.met.K.Keep.only_committed c.answer.new.keep left opened leaves ∙ step.6 opened)
                    (λ left leaves. elim (c.answer.ensures.crash is left leaves) [
                      | inl old ↦ inl old
                      | inr made ↦ inr (
                        made.1,
                        subst (λ (m : Tables).
                            Step (section_at site asked.caller) (seat_name_at site asked.caller) m
                            asked.request made.1 left) (first.1.stands made.0) made.2,
                      )
                    ]));
                text = λ honest text told.
                    c.answer.ensures.text honest text (first.1.text (c.answer.ensures.was_honest honest) text told);
                stands = step.6;
              },
            ),
      );
    }

-- there is room
pub returns-in_err-push-clause-ok : goal.returns-in_err-push-clause-ok
returns-in_err-push-clause-ok g c = absurd
    (omega (
      arith,
      c.in_err-push.ensures.full,
      c.loop-asked.invariant.taken,
      c.loop-asked.invariant.capacity,
      c.requires.room,
      c.loop-asked-test.true,
    ))

pub returns-clause-seats : goal.returns-clause-seats
returns-clause-seats g c = rw (take_all c.loop-asked.asked-index c.args.requests.now c.loop-asked-test.false) at c.loop-asked.invariant.seats

pub returns-clause-run : goal.returns-clause-run
returns-clause-run g c =
    let run = rw (take_all c.loop-asked.asked-index c.args.requests.now c.loop-asked-test.false) at c.loop-asked.invariant.run in
    (run.0, run.1, run.2 ∙ length-map c.args.requests.now (call_of c.args.site.now), run.3)
