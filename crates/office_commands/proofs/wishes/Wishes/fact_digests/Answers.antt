use Rattle.std.proofs.Common.{◌≡◌, ◌+◌, ◌++◌, ◌∷◌}
use Rattle.text_core.proofs.Kit.{List, [], arith, subst, take, suc, AllByRecursion, take-suc, take_all}
use Rattle.fuse_plan.specs.declared.wish.Wish.{Wish}
use Rattle.office_commands.specs.Prelude.{HasDigest}
use Rattle.office_commands.proofs.wishes.Wishes.fact_digests.Goals as goal

-- what holds of some and of one more holds of all
all_with : (P : Wish → Type 0) (xs : List Wish) (x : Wish) → AllByRecursion P xs → P x → AllByRecursion P (xs ++ x ∷ [])
all_with P [] x all is = (is, tt)
all_with P (y ∷ ys) x all is = (all.0, all_with P ys x all.1 is)

pub loop-wish-preserved : goal.loop-wish-preserved
loop-wish-preserved c =
    let i = c.loop-wish.wish-index in
    let wishes = c.as_slice-wishes.result.now in
    let next : i + 1 ≡ suc i = omega arith in
    rw (next, take-suc wishes i c.wish-item.result c.loop-wish-test.true, ← c.wish-item.is)
    (all_with (λ w. HasDigest w.want) (take i wishes) c.wish-item.result c.loop-wish.invariant c.fact_digest.ensures)

pub returns : goal.returns
returns c =
    let all = take_all c.loop-wish.wish-index c.as_slice-wishes.result.now c.loop-wish-test.false in
    rw (← c.as_slice-wishes.ensures) (subst (AllByRecursion (λ w. HasDigest w.want)) all c.loop-wish.invariant)
