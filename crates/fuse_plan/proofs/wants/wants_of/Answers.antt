use Rattle.std.proofs.Common.{ap₂, ◌∙◌, refl, take_all}
use Rattle.std.specs.FinSet as set
use Rattle.fuse_plan.specs.Prelude.{asks_one, asks_zero, wanted_ones, wanted_zeros}
use Rattle.fuse_plan.proofs.Asked.{asked_by-none, asked_by-more}
use Rattle.fuse_plan.proofs.wants.wants_of.Goals as goal

pub loop-wish-init : goal.loop-wish-init
loop-wish-init c = record {
  ones = c.empty-ones.ensures ∙ asked_by-none (asks_one c.args.map.now);
  zeros = c.empty-zeros.ensures ∙ asked_by-none (asks_zero c.args.map.now);
}

pub loop-wish-preserved : goal.loop-wish-preserved
loop-wish-preserved c =
    let wishes = c.args.wishes.now in
    let index = c.loop-wish.wish-index in
    record {
      ones = c.join-ones.ensures
          ∙ (ap₂ set.union c.loop-wish.invariant.ones c.ones_of.ensures
          ∙ asked_by-more (asks_one c.args.map.now) wishes index c.wish-item.result c.loop-wish-test.true c.wish-item.is);
      zeros = c.join-zeros.ensures
          ∙ (ap₂ set.union c.loop-wish.invariant.zeros c.zeros_of.ensures
          ∙ asked_by-more (asks_zero c.args.map.now) wishes index c.wish-item.result c.loop-wish-test.true c.wish-item.is);
    }

pub returns : goal.returns
unfolding wanted_ones wanted_zeros
returns c =
    let all = take_all c.loop-wish.wish-index c.args.wishes.now c.loop-wish-test.false in
    rw (c.loop-wish.invariant.ones, c.loop-wish.invariant.zeros, c.wanted_keys.ensures, all) refl
