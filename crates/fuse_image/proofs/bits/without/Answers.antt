use Rattle.std.proofs.Common.{refl, arith}
use Rattle.fuse_image.proofs.Changed.{AreChanged-more}
use Rattle.fuse_image.proofs.bits.without.Goals as goal

pub loop-word-preserved : goal.loop-word-preserved
loop-word-preserved c =
    AreChanged-more _ c.args.own.now c.loop-word.words c.loop-word.word c.loop-word.word _ c.loop-word.invariant refl
    (omega (arith, c.loop-word.invariant.count)) refl
