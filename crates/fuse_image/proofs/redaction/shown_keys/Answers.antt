use Rattle.std.proofs.Common.{◌∙◌}
use Rattle.fuse_image.proofs.Tables.{table_is}
use Rattle.fuse_image.specs.Prelude.{shown_key}
use Rattle.fuse_image.proofs.redaction.shown_keys.Goals as goal

pub returns : goal.returns
returns c =
    c.new.ensures
    ∙ table_is (shown_key c.args.map.now c.args.words.now)
    c.shown_key.ensures c.shown_key-2.ensures c.shown_key-3.ensures c.shown_key-4.ensures
