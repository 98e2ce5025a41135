use Rattle.std.proofs.Common.{◌≡◌, refl, sym, ◌∙◌}
use Rattle.text_core.proofs.Lists.{all_of_next, all_of_end}
use Rattle.text_core.proofs.items.read_all.Goals as goal

pub returns-in_default : goal.returns-in_default
returns-in_default g c item_in reads =
    let item : c.read.result ≡ item_in c.value-item.result = reads _ _ (record { shown = _; shows = refl; says = record { met = c.read.ensures } }) in
    sym (all_of_end item_in _ _ _ c.loop-value-test.true c.value-item.is (sym item ∙ c.in_default.is))

pub loop-value-preserved : goal.loop-value-preserved
loop-value-preserved g c item_in reads =
    let item : c.read.result ≡ item_in c.value-item.result = reads _ _ (record { shown = _; shows = refl; says = record { met = c.read.ensures } }) in
    rw c.in_ok-push.ensures.items
    (all_of_next item_in _ _ _ _ _ c.loop-value-test.true c.value-item.is (c.loop-value.invariant item_in reads) (sym item ∙ c.in-Some.is))
