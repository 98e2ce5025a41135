use Rattle.fuse_image.specs.Prelude.{AreEachAmong}
use Rattle.fuse_image.proofs.keys.are_among.Given as goal

abbrev pub invariant-loop-block : goal.invariant-loop-block
invariant-loop-block l = AreEachAmong l.own l.other l.block
