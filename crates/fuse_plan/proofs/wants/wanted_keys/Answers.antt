use Rattle.std.proofs.Common.{◌∙◌}
use Rattle.fuse_image.proofs.Tables.{table_is}
use Rattle.fuse_plan.specs.Prelude.{wanted_key, wanted_keys}
use Rattle.fuse_plan.proofs.wants.wanted_keys.Goals as goal

pub returns : goal.returns
unfolding wanted_keys
returns c =
    c.new.ensures
    ∙ table_is (λ b. wanted_key c.args.map.now b c.args.wishes.now)
    c.wanted_key.ensures c.wanted_key-2.ensures c.wanted_key-3.ensures c.wanted_key-4.ensures
