use Rattle.std.proofs.Common.{◌≡◌, ◌&&◌, Bool, drop}
use Rattle.std.specs.List.{list_any}
use Rattle.fusemap_core.specs.declared.field.Field.{Field}
use Rattle.fusemap_core.specs.Prelude.{holds}
use Rattle.fuse_image.specs.Prelude.{has_burnt_lock}
use Rattle.fuse_image.proofs.locks.is_locked.Given as goal

abbrev pub invariant-loop-field : goal.invariant-loop-field
invariant-loop-field l =
    let is_locked : Field → Bool = λ f. holds f l.pos && has_burnt_lock l.map l.lock l.burnt f in
    list_any is_locked (drop l.field-index l.fields) ≡ list_any is_locked l.fields
