use Rattle.std.proofs.Common.{◌≡◌, take}
use Rattle.fuse_image.specs.Prelude.{has_burnt_lock, positions_in}
use Rattle.fuse_image.proofs.locks.locked_positions.Given as goal

abbrev pub invariant-loop-field : goal.invariant-loop-field
invariant-loop-field l =
    l.positions ≡ positions_in (has_burnt_lock l.map l.lock l.burnt) (take l.field-index l.fields)
