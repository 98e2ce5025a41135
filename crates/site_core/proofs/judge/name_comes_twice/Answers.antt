use Rattle.text_core.proofs.Kit.{◌∙◌, IfOk-weaker, is_eq-slice_cmp}
use Rattle.site_core.proofs.Pairs.{has_pair-alike}
use Rattle.site_core.proofs.judge.name_comes_twice.Goals as goal

pub returns : goal.returns
returns c =
    IfOk-weaker c.comes_twice.result _ _ (λ found known. known ∙ has_pair-alike _ _ is_eq-slice_cmp c.args.names.now) c.comes_twice.ensures
