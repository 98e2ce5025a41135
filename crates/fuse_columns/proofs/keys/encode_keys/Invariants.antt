use Rattle.std.proofs.Common.{◌≡◌, ◌*◌, length, take, flat_map}
use Rattle.std.specs.FinMap as map
use Rattle.fuse_columns.specs.Prelude.{key_blocks, key_bytes}
use Rattle.fuse_columns.proofs.keys.encode_keys.Given as goal

abbrev pub invariant-loop-field : goal.invariant-loop-field
invariant-loop-field l = record {
  value : l.column ≡ flat_map (λ block. key_bytes (map.get l.keys block)) (key_blocks (take l.field-index l.fields));
  size : length l.column ≡ 33 * length (key_blocks (take l.field-index l.fields));
}
