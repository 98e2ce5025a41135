use Rattle.std.proofs.Common.{◌∙◌, ap, bytes_eq}
use Rattle.yield_counts.proofs.Digits.{has_by, has_not}
use Rattle.yield_counts.proofs.serials.has_serial.Goals as goal

pub returns-in-Some : goal.returns-in-Some
returns-in-Some c =
    has_by c.args.range.now c.args.serial.now c.in-Some.number c.in-Some.ensures.has c.in-Some.ensures.found c.eq.result
    (c.eq.ensures ∙ ap (λ text. bytes_eq text c.args.serial.now) c.text.ensures)

pub returns-in-None : goal.returns-in-None
returns-in-None c = has_not c.args.range.now c.args.serial.now c.in-None.ensures.found
