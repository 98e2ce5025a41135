use Rattle.fuse_image.proofs.Redacted.{AreKeys-shown, AreOutsideKeys-plain_ones}
use Rattle.fuse_image.proofs.redaction.redact.Goals as goal

pub returns-clause-keys : goal.returns-clause-keys
returns-clause-keys c = rw c.shown_keys.ensures (AreKeys-shown c.args.map.now c.args.words.now)

pub returns-clause-outside_keys : goal.returns-clause-outside_keys
returns-clause-outside_keys c = rw c.plain_ones.ensures (AreOutsideKeys-plain_ones c.args.map.now c.args.words.now)
