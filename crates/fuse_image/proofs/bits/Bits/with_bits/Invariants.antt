use Rattle.std.proofs.Common.{◌≡◌, take}
use Rattle.std.specs.FinSet as set
use Rattle.fuse_image.proofs.bits.Bits.with_bits.Given as goal

abbrev pub invariant-loop-pos : goal.invariant-loop-pos
invariant-loop-pos l = l.bits ≡ set.union l.self (set.from_list (take l.pos-index l.positions))
