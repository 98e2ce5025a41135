use Rattle.std.proofs.Common.{◌≡◌, take}
use Rattle.fuse_image.specs.Prelude.{positions_in}
use Rattle.fuse_image.proofs.locks.key_positions.Given as goal

abbrev pub invariant-loop-field : goal.invariant-loop-field
invariant-loop-field l = l.positions ≡ positions_in (λ f. f.key) (take l.field-index l.fields)
