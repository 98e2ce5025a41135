use Rattle.std.proofs.Common.{get_or, ap, ◌∙◌}
use Rattle.std.specs.FinSet as set
use Rattle.fusemap_core.specs.declared.pos.Pos.{Pos}
use Rattle.fuse_image.specs.Prelude.{Positions}
use Rattle.fuse_image.proofs.Sets.{union-none, union-more}
use Rattle.fuse_image.proofs.bits.Bits.with_bits.Goals as goal

pub loop-pos-init : goal.loop-pos-init
loop-pos-init c = union-none c.args.self.now

pub loop-pos-preserved : goal.loop-pos-preserved
loop-pos-preserved c =
    let none : Pos = record { block = 0; bit = 0 } in
    c.add.ensures
    ∙ (ap (λ (s : Positions). set.insert s (get_or c.args.positions.now c.loop-pos.pos-index none)) c.loop-pos.invariant
    ∙ union-more c.args.self.now c.args.positions.now c.loop-pos.pos-index none c.loop-pos-test.true)
