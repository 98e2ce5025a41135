use Rattle.std.proofs.Common.{arith}
use Rattle.station_cli.proofs.NumberTexts.{number_of_digits-none, number_of_digits-read}
use Rattle.station_cli.proofs.job.number_of_digits.Goals as goal

pub returns-in-Ok-clause-number : goal.returns-in-Ok-clause-number
returns-in-Ok-clause-number c =
    number_of_digits-read c.args.least c.args.most c.in-Ok.number c.args.text.now c.in-Ok.ensures.value.0 c.if-least-number.true c.if-number-most.true

pub returns-in_default-clause-number : goal.returns-in_default-clause-number
returns-in_default-clause-number c =
    number_of_digits-none c.args.least c.args.most c.args.text.now (λ within. omega (arith, within.3, c.in-Ok.ensures.value.0.1, c.if-number-most.false))

pub returns-in_default-2-clause-number : goal.returns-in_default-2-clause-number
returns-in_default-2-clause-number c =
    number_of_digits-none c.args.least c.args.most c.args.text.now (λ within. omega (arith, within.2, c.in-Ok.ensures.value.0.1, c.if-least-number.false))

pub returns-in_default-3-clause-number : goal.returns-in_default-3-clause-number
returns-in_default-3-clause-number c =
    number_of_digits-none c.args.least c.args.most c.args.text.now (λ within. c.in_default.ensures.value.0 (within.0, within.1))
