use Rattle.text_core.proofs.Kit.{ap₂, ◌∙◌, option_or}
use Rattle.std.specs.FinMap as map
use Rattle.fuse_image.specs.Prelude.{keys_union}
use Rattle.fuse_image.proofs.Tables.{table_is}
use Rattle.fuse_image.proofs.keys.Keys.join.Goals as goal

pub returns : goal.returns
unfolding keys_union
returns c = table_is (λ b. option_or (map.get c.args.self.now b) (map.get c.args.other.now b))
    (c.either.ensures ∙ ap₂ option_or c.get.ensures c.get-2.ensures)
    (c.either-2.ensures ∙ ap₂ option_or c.get-3.ensures c.get-4.ensures)
    (c.either-3.ensures ∙ ap₂ option_or c.get-5.ensures c.get-6.ensures)
    (c.either-4.ensures ∙ ap₂ option_or c.get-7.ensures c.get-8.ensures)
