use Rattle.std.proofs.Common.{List, ap, ◌∙◌}
use Rattle.fusemap_core.specs.declared.field.Field.{Field}
use Rattle.fuse_image.specs.Prelude.{table_where}
use Rattle.fuse_image.proofs.Tables.{table_is}
use Rattle.fuse_columns.specs.Prelude.{key_blocks, key_in_bytes, keys_in}
use Rattle.fuse_columns.proofs.keys.read_keys.Goals as goal

pub returns : goal.returns
unfolding keys_in
returns c =
    c.new.ensures
    ∙ (table_is (key_in_bytes (key_blocks c.fields-fields.result.now) c.args.bytes.now)
    c.key_in.ensures c.key_in-2.ensures c.key_in-3.ensures c.key_in-4.ensures
    ∙ ap (λ (fields : List Field). table_where (key_in_bytes (key_blocks fields) c.args.bytes.now)) c.fields-fields.ensures.same)
