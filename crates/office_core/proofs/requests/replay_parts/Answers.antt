use Rattle.std.proofs.Common.{◌≡◌, ◌∙◌, ◌+◌, ◌++◌, [], ◌∷◌, length, take, map, refl, sym, ap, arith, zip, length-append, take_all}
use Rattle.std.proofs.lemmas.List.{length-map, take_more}
use Rattle.http_replies.specs.Prelude.{answer_of}
use Rattle.office_laws.proofs.Promising.{promises}
use Rattle.office_core.specs.Prelude.{call_of, calls_in, calls_of_parts, exchanges_of_parts, last_owners, sites_of}
use Rattle.office_core.proofs.Parts.{answered_joined, exchanges_joined, has_seats_more, left_over, parts_more, seats_of_parts}
use Rattle.office_core.proofs.Replaying.{exchanges_calls}
use Rattle.office_core.proofs.requests.replay_parts.Goals as goal

pub loop-part-preserved : goal.loop-part-preserved
loop-part-preserved g c =
    let part = c.part-item.result in
    let index = c.loop-part.part-index in
    let done = take index c.args.parts.now in
    let calls = calls_of_parts done in
    let now = calls_in part.site.now part.requests.now in
    let run = c.answer_all.ensures.run in
    let before = c.loop-part.replies.items in
    let xs = exchanges_of_parts done before in
    let ys = zip now (map answer_of run.0) in
    let more : take (index + 1) c.args.parts.now ≡ done ++ part ∷ [] =
    rw (take_more c.args.parts.now index part c.loop-part-test.true, ← c.part-item.is) refl in
    let calls_more : calls_of_parts (take (index + 1) c.args.parts.now) ≡ calls ++ now = ap calls_of_parts more ∙ parts_more done part in
    let joined : zip (calls ++ now) (map answer_of (before ++ run.0)) ≡ xs ++ ys = exchanges_joined calls now before run.0 c.loop-part.invariant.count in
    let left = left_over c.args.parts.now index part c.loop-part-test.true c.part-item.is in
    let added : length run.0 ≡ length now = run.2 ∙ sym (length-map part.requests.now (call_of part.site.now)) in
    record {
      room = omega (arith, c.loop-part.invariant.room, c.answer_all.ensures.len, c.answer_all.ensures.capacity, left);
      was_open = λ is. c.loop-part.invariant.was_open (c.answer_all.ensures.was_open is);
      was_honest = λ is. c.loop-part.invariant.was_honest (c.answer_all.ensures.was_honest is);
      count = rw (run.1, calls_more) (simp length-append (omega (arith, c.loop-part.invariant.count, added)));
      seats = rw more (has_seats_more done part c.loop-part.invariant.seats (record { site = c.answer_all.ensures.site; seats = c.answer_all.ensures.seats }));
      run = λ is t stands.
          let first = c.loop-part.invariant.run (c.answer_all.ensures.was_honest is) t stands in
          let second = run.3 is first.0 first.1.stands in (
            second.0,
            rw (run.1, calls_more, joined)
                (answered_joined g.K.Keep c.args.keep.now c.loop-part.keep c.answer_all.new.keep xs
                ys t first.0 second.0 c.answer_all.ensures.was_honest first.1 second.1),
          );
    }

pub returns-clause-seats : goal.returns-clause-seats
returns-clause-seats g c = λ first begun.
    let all = take_all c.loop-part.part-index c.args.parts.now c.loop-part-test.false in
    seats_of_parts first c.args.parts.now c.requires.grown (rw all at c.loop-part.invariant.seats) begun

pub returns-clause-run : goal.returns-clause-run
returns-clause-run g c = λ honest t stands.
    let parts = c.args.parts.now in
    let replies = c.loop-part.replies.items in
    let all = take_all c.loop-part.part-index parts c.loop-part-test.false in
    let run = rw all at c.loop-part.invariant.run in
    let seats = rw all at c.loop-part.invariant.seats in
    let count = rw all at c.loop-part.invariant.count in
    let made = run honest t stands in
    let xs = exchanges_of_parts parts replies in
    let each = exchanges_calls (calls_of_parts parts) replies count in (
      made.0,
      made.1,
      λ first begun sound.
          promises first xs (last_owners first (sites_of parts)) t made.0 sound (rw each (seats_of_parts first parts c.requires.grown seats begun)) made.1.run,
    )
