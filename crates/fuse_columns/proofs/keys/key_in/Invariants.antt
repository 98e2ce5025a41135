use Rattle.std.proofs.Common.{◌≡◌, drop}
use Rattle.fuse_columns.specs.Prelude.{key_blocks, key_in_bytes}
use Rattle.fuse_columns.proofs.keys.key_in.Given as goal

abbrev pub invariant-loop-field : goal.invariant-loop-field
invariant-loop-field l = key_in_bytes (key_blocks (drop l.field-index l.fields)) l.rest l.block ≡ key_in_bytes (key_blocks l.fields) l.bytes l.block
