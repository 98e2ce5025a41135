use Rattle.std.proofs.Common.{rules}
use Rattle.std.proofs.lemmas.List.{take_rest}
use Rattle.http_frames.proofs.FieldsLemmas.{lacks, lacks-take, seam_at}
use Rattle.http_frames.proofs.fields.cut_at.Goals as goal

pub returns-in_err-at : goal.returns-in_err-at
returns-in_err-at c = rw c.from_residual.ensures (lacks c.args.byte c.args.bytes.now (search rules))

pub returns : goal.returns
returns c =
    simp take_rest (
      seam_at c.args.bytes.now c.in_ok-at.at c.args.byte (search rules) (search rules),
      lacks-take c.args.byte c.args.bytes.now c.in_ok-at.at (search rules),
    )
