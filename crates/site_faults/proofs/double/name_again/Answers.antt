use Rattle.text_core.proofs.Kit.{◌∙◌, [], IfOk-weaker, is_eq-slice_cmp}
use Rattle.site_faults.proofs.Again.{first_again-alike}
use Rattle.site_faults.proofs.double.name_again.Goals as goal

pub returns : goal.returns
returns c =
    IfOk-weaker c.item_again.result _ _ (λ found known. known ∙ first_again-alike _ _ is_eq-slice_cmp [] c.args.names.now) c.item_again.ensures
