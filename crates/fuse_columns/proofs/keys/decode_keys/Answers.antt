use Rattle.fuse_columns.proofs.KeyBytes.{AreKeysOf-keys_in}
use Rattle.fuse_columns.proofs.keys.decode_keys.Goals as goal

pub returns-clause-keys : goal.returns-clause-keys
returns-clause-keys c = rw c.read_keys.ensures (AreKeysOf-keys_in c.args.map.now c.as_bytes.result.now)
