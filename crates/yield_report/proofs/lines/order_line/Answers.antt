use Rattle.std.proofs.Common.{◌∙◌, refl, rules}
use Rattle.yield_report.proofs.lines.order_line.Goals as goal

pub returns-in-Some : goal.returns-in-Some
returns-in-Some g c = record {
  read_only = search rules;
  stays_open = search rules;
  answer = λ is.
      let counts = c.in_ok-counts.ensures.answer is in
      (c.in-Some.ensures.line ∙ rw (counts.devices, counts.left) refl, rw c.in-Some.ensures.line (c.in-Some.ensures.fits.0 refl));
}
