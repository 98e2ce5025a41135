use Rattle.std.proofs.Common.{◌≡◌, ◌++◌}
use Rattle.fuse_columns.specs.Prelude.{bytes_of_words}
use Rattle.fuse_columns.proofs.bits.append_block.Given as goal

abbrev pub invariant-loop-word : goal.invariant-loop-word
invariant-loop-word l = l.column ≡ l.fn.column ++ bytes_of_words l.words l.block l.word
