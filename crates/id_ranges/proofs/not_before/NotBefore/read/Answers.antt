use Rattle.std.proofs.Common.{Ok, sym, ◌∙◌, ap}
use Rattle.id_ranges.specs.Prelude.{has_clock, has_date}
use Rattle.id_ranges.proofs.Times.{refused_clock, refused_date, refused_form, taken, time_is_text}
use Rattle.id_ranges.proofs.not_before.NotBefore.read.Goals as goal
use Rattle.id_ranges.proofs.not_before.NotBefore.read.Goals.{then-not-has_date-via-then-not-has_date}
use Rattle.id_ranges.proofs.not_before.NotBefore.read.Goals.{then-not-has_date-via-else-not-has_date+then-not-has_clock}

pub returns-in_default : goal.returns-in_default
returns-in_default c = sym (refused_form c.args.text.now (sym c.in_default.is ∙ c.parse.ensures))

pub returns-then-not-has_date : goal.returns-then-not-has_date
returns-then-not-has_date c =
    let same = (time_is_text c.args.text.now c.in-Some.time (sym c.parse.ensures ∙ c.in-Some.is)).1 in
    elim c.then-not-has_date.branch [
      | then-not-has_date-via-then-not-has_date w ↦
          sym (refused_date c.args.text.now (ap has_date same ∙ sym c.has_date.ensures ∙ w.if-not-has_date.true))
      | then-not-has_date-via-else-not-has_date+then-not-has_clock w ↦
          sym (refused_clock c.args.text.now (ap has_clock same ∙ sym w.has_clock.ensures ∙ w.if-not-has_clock.true))
    ]

pub returns : goal.returns
returns c =
    let was = time_is_text c.args.text.now c.in-Some.time (sym c.parse.ensures ∙ c.in-Some.is) in
    let date = ap has_date was.1 ∙ sym c.has_date.ensures ∙ c.if-not-has_date.false in
    let clock = ap has_clock was.1 ∙ sym c.has_clock.ensures ∙ c.if-not-has_clock.false in
    ap (λ text. Ok text) (sym was.1) ∙ sym (taken c.args.text.now was.0 date clock)
