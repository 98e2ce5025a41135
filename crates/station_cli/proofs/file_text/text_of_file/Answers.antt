use Rattle.std.proofs.Common.{Ok, ap, ◌∙◌}
use Rattle.station_cli.proofs.FileTexts.{text_of_file-text, text_of_file-no_text}
use Rattle.station_cli.proofs.file_text.text_of_file.Goals as goal

pub returns-in-Ok : goal.returns-in-Ok
returns-in-Ok c =
    let text = c.in-Ok.ensures.cases in
    ap Ok text.0 ∙ text_of_file-text c.args.name c.args.bytes.now c.args.limit c.args.too_long c.if-bytes-limit.false text.1

pub returns-in-Err : goal.returns-in-Err
returns-in-Err c = text_of_file-no_text c.args.name c.args.bytes.now c.args.limit c.args.too_long c.if-bytes-limit.false c.in-Err.ensures.cases.0
