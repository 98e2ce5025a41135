use Rattle.std.proofs.Common.{Some, None, ◌∙◌}
use Rattle.clap.specs.Words.{found_of}
use Rattle.station_cli.proofs.NumberTexts.{number_of_first}
use Rattle.station_cli.proofs.job.option_number.Goals as goal

pub returns-in-Some-clause-number : goal.returns-in-Some-clause-number
returns-in-Some-clause-number c =
    c.number_of_digits.ensures.number
    ∙ number_of_first (found_of c.args.options.now) c.args.id.now c.args.least c.args.most (Some c.in-Some.text.now) c.in-Some.ensures

pub returns-in-None-clause-number : goal.returns-in-None-clause-number
returns-in-None-clause-number c =
    number_of_first (found_of c.args.options.now) c.args.id.now c.args.least c.args.most None c.in-None.ensures
