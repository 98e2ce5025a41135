use Rattle.std.proofs.Common.{sym}
use Rattle.fuse_columns.proofs.KeyBytes.{key_of_bytes-short, key_of_bytes-other}
use Rattle.fuse_columns.proofs.keys.key_of.Goals as goal
use Rattle.fuse_columns.proofs.keys.key_of.Goals.{then-bytes-lt-KEY_LENGTH-via-then-bytes-lt-KEY_LENGTH}
use Rattle.fuse_columns.proofs.keys.key_of.Goals.{then-bytes-lt-KEY_LENGTH-via-else-bytes-lt-KEY_LENGTH+then-bytes-ne1}

pub returns-then-bytes-lt-KEY_LENGTH : goal.returns-then-bytes-lt-KEY_LENGTH
returns-then-bytes-lt-KEY_LENGTH c = elim c.then-bytes-lt-KEY_LENGTH.branch [
  | then-bytes-lt-KEY_LENGTH-via-then-bytes-lt-KEY_LENGTH w ↦ sym (key_of_bytes-short c.args.bytes.now w.if-bytes-lt-KEY_LENGTH.true)
  | then-bytes-lt-KEY_LENGTH-via-else-bytes-lt-KEY_LENGTH+then-bytes-ne1 w ↦ sym (key_of_bytes-other c.args.bytes.now w.if-bytes-ne1.true)
]
