use Rattle.std.proofs.Common.{◌/◌, ◌%◌, ℕ, List, ap, ap₂, ◌∙◌}
use Rattle.std.specs.FinSet as set
use Rattle.std.proofs.Math.Facts.{Fits-lt-pow}
use Rattle.fuse_columns.specs.Prelude.{word_of_block}
use Rattle.fuse_columns.proofs.SetBytes.{bits_by_words}
use Rattle.fuse_columns.proofs.bits.read_bits.Goals as goal

pub returns : goal.returns
returns c =
    c.minus.ensures
    ∙ (ap₂ set.difference c.from_words.ensures c.key_positions.ensures
    ∙ bits_by_words c.args.map.now c.args.bytes.now c.words_in.result (λ i. Fits-lt-pow (c.type_inv.bytes i)) (λ k low.
    c.words_in.ensures k low ∙ ap (λ (blocks : List ℕ). word_of_block blocks c.args.bytes.now (k / 8) (k % 8)) c.blocks-2.ensures.same))
