use Rattle.text_core.proofs.Kit.{◌∙◌, sym, IfOk-weaker}
use Rattle.text_core.proofs.Lists.{all_of-map}
use Rattle.members.proofs.items.read_all.Goals as goal

pub returns : goal.returns
returns g c item_in reads =
    IfOk-weaker c.read_all.result _ _ (λ found all. all ∙ sym (all_of-map item_in g.V.Viewed.view c.args.values.now))
    (c.read_all.ensures (λ value. item_in (g.V.Viewed.view value)) reads)
