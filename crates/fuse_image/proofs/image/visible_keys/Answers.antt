use Rattle.std.proofs.Common.{◌∙◌, None, if◌then◌else◌}
use Rattle.std.specs.FinMap as map
use Rattle.fuse_image.specs.Prelude.{is_hidden_key}
use Rattle.fuse_image.proofs.Tables.{table_is}
use Rattle.fuse_image.proofs.image.visible_keys.Goals as goal

pub returns : goal.returns
returns c =
    c.new.ensures
    ∙ table_is (λ b. if is_hidden_key c.args.map.now c.args.burnt.now b then None else map.get c.args.keys.now b)
    c.visible_key.ensures c.visible_key-2.ensures c.visible_key-3.ensures c.visible_key-4.ensures
