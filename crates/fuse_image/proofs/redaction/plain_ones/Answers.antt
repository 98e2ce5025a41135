use Rattle.std.proofs.Common.{ap₂, ◌∙◌}
use Rattle.std.specs.FinSet as set
use Rattle.fuse_image.proofs.Redacted.{plain_ones-words}
use Rattle.fuse_image.proofs.redaction.plain_ones.Goals as goal

pub returns : goal.returns
returns c =
    c.minus.ensures
    ∙ (ap₂ set.difference c.from_words.ensures c.key_positions.ensures
    ∙ plain_ones-words c.args.map.now c.args.words.now c.to_words.result c.to_words.ensures)
