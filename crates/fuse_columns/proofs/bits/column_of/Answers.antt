use Rattle.std.proofs.Common.{◌≡◌, ◌+◌, ◌*◌, ◌++◌, ◌≤◌, ℕ, List, length, sym, ap, ◌∙◌, arith, length-append, slice_index}
use Rattle.fuse_columns.specs.Prelude.{bytes_of_words}
use Rattle.fuse_columns.proofs.Blocks.{bytes_of_blocks-more, length-bytes_of_words}
use Rattle.fuse_columns.proofs.bits.column_of.Goals as goal

pub loop-block-preserved : goal.loop-block-preserved
loop-block-preserved c =
    let block = c.loop-block.block in
    let words = c.args.words.now in
    let count : ℕ = slice_index c.args.blocks.now block in
    let piece : List ℕ = bytes_of_words words block count in
    let short : count ≤ 8 = c.requires.short block 0 c.loop-block-test.true in
    let size : length c.append_block.new.column ≡ length c.loop-block.column + 4 * count =
    ap length c.append_block.ensures ∙ (length-append c.loop-block.column piece ∙ ap (λ k.
    length c.loop-block.column + k) (length-bytes_of_words words block count)) in
    record {
      value =
          c.append_block.ensures
          ∙ (ap (λ (bytes : List ℕ). bytes ++ piece) c.loop-block.invariant.value
          ∙ sym (bytes_of_blocks-more words c.args.blocks.now block));
      few = omega (arith, size, short, c.loop-block.invariant.few);
    }
