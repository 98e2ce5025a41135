use Rattle.std.proofs.Common.{ℕ, List, length, ap, ap₂, ◌∙◌}
use Rattle.std.specs.FinSet as set
use Rattle.fuse_image.specs.Prelude.{words_of_set}
use Rattle.fuse_columns.specs.Prelude.{bytes_of_blocks}
use Rattle.fuse_columns.proofs.SetBytes.{column_by_words, length-bits_column}
use Rattle.fuse_columns.proofs.bits.encode_bits.Goals as goal

pub returns-clause-same : goal.returns-clause-same
returns-clause-same c =
    c.column_of.ensures
    ∙ (ap₂ (λ (words blocks : List ℕ). bytes_of_blocks words blocks (length blocks))
    (c.to_words-words.ensures ∙ ap words_of_set (c.minus.ensures ∙ ap (set.difference c.args.bits.now) c.key_positions.ensures)) c.blocks-2.ensures.same
    ∙ column_by_words c.args.map.now c.args.bits.now c.blocks-2.ensures.map)

pub returns-clause-length : goal.returns-clause-length
returns-clause-length c = ap length (returns-clause-same c) ∙ length-bits_column c.args.map.now c.args.bits.now
