use Rattle.std.proofs.Common.{◌≡◌, ◌≤◌, false, inl, inr, refl, arith}
use Rattle.text_core.proofs.Kit.{cases_lt}
use Rattle.id_ranges.specs.Prelude.{Has, serial_text}
use Rattle.id_ranges.proofs.NextNumbers.{next_here, next_none}
use Rattle.id_ranges.proofs.next.next_serial_from.Goals as goal

pub returns-then-past-number-clause-exact : goal.returns-then-past-number-clause-exact
returns-then-past-number-clause-exact g c = λ honest.
    let given = c.args.given.now in
    let range = c.args.range.now in
    let number = c.loop-number.number in
    let tells = g.G.Given.tells given in
    let was = g.met.G.Given.was_honest given c.loop-number.state c.end_of_given.new.state c.in_ok-past.ensures.ok honest in
    let same = g.met.G.Given.same given c.args.state.now c.loop-number.state c.loop-number.invariant.looked was in
    let free : tells c.args.state.now (serial_text range number) ≡ false =
    rw (← same) ((c.in_ok-past.ensures.answer honest).none c.if-past-number.true) in
    let has : Has range number = (c.loop-number.invariant.above, omega arith) in
    let next = next_here c.args.cursor (tells c.args.state.now) range number has c.loop-number.invariant.high free (c.loop-number.invariant.passed was) in
    inl (rw (next, c.text.ensures) refl)

pub loop-number-preserved : goal.loop-number-preserved
loop-number-preserved g c =
    let given = c.args.given.now in
    let looked = g.met.G.Given.more given c.args.state.now c.loop-number.state c.end_of_given.new.state c.loop-number.invariant.looked
    c.in_ok-past.ensures.ok in
    record {
      looked = looked;
      above = omega (arith, c.loop-number.invariant.above, c.in_ok-past.ensures.within.0);
      high = omega (arith, c.loop-number.invariant.high, c.in_ok-past.ensures.within.0);
      passed = λ honest k low from below.
          let was = g.met.G.Given.was_honest given c.loop-number.state c.end_of_given.new.state c.in_ok-past.ensures.ok honest in
          let same = g.met.G.Given.same given c.args.state.now c.loop-number.state c.loop-number.invariant.looked was in
          elim (cases_lt k c.loop-number.number) [
            | inl before ↦ c.loop-number.invariant.passed was k low from before
            | inr after ↦ rw (← same) ((c.in_ok-past.ensures.answer honest).all k after below)
          ];
    }

pub returns-clause-exact : goal.returns-clause-exact
returns-clause-exact g c = λ honest.
    let tells = g.G.Given.tells c.args.given.now in
    let none =
    next_none c.args.cursor (tells c.args.state.now) c.args.range.now (λ k low from high.
    c.loop-number.invariant.passed honest k low from (omega arith)) in
    inl (rw none refl)
