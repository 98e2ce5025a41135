use Rattle.std.proofs.Common.{◌≡◌, ◌&&◌, ◌∷◌}
use Rattle.text_core.proofs.Kit.{◌∙◌, Bool, List, [], length, take, refl, sym, ap, rules, tests, list_all, zip, pointwise, length-take-le}
use Rattle.text_core.proofs.Kit.{YieldsList-from_slice, YieldsList-from_zip, all_from_yields_List}
use Rattle.site_core.specs.Prelude.{is_same_pool}
use Rattle.site_core.proofs.growth.begins_with.Goals as goal

paired : {X : Type 0} (same : X → X → Bool) (xs ys : List X) → length xs ≡ length ys → list_all (λ p. same p.0 p.1) (zip xs ys) ≡ pointwise same xs ys
paired same [] [] e = refl
paired same [] (y ∷ ys) e = cc
paired same (x ∷ xs) [] e = cc
paired same (x ∷ xs) (y ∷ ys) e = ap (λ rest. same x y && rest) (paired same xs ys (cc))

pub returns : goal.returns
returns c =
    let front = c.args.front.now in
    let part = take (length front) c.args.pools.now in
    let long : length front ≡ length part = sym (length-take-le (length front) c.args.pools.now c.if-pools-front.false) in
    all_from_yields_List (λ p. is_same_pool p.0 p.1) c.all.new.self _ c.all.result c.all.ensures.ran
    (YieldsList-from_zip (YieldsList-from_slice front cc) (YieldsList-from_slice part cc)) (λ x b q k. search (rules, tests))
    ∙ paired is_same_pool front part long
