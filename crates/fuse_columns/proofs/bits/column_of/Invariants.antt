use Rattle.std.proofs.Common.{◌≡◌, ◌≤◌, ◌*◌, length}
use Rattle.fuse_columns.specs.Prelude.{bytes_of_blocks}
use Rattle.fuse_columns.proofs.bits.column_of.Given as goal

abbrev pub invariant-loop-block : goal.invariant-loop-block
invariant-loop-block l = record {
  value : l.column ≡ bytes_of_blocks l.words l.blocks l.block;
  few : length l.column ≤ 32 * l.block;
}
