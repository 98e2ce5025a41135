use Rattle.std.proofs.Common.{◌≡◌, ◌&&◌, ◌||◌, Bool, drop, option_and_then}
use Rattle.std.specs.List.{list_any}
use Rattle.fusemap_core.specs.declared.field.Field.{Field}
use Rattle.fusemap_core.specs.Prelude.{holds, is_lock, lock_at}
use Rattle.fusemap_core.proofs.locks.is_governed.Given as goal

abbrev pub invariant-loop-field : goal.invariant-loop-field
invariant-loop-field l =
    let is_governed : Field → Bool =
    λ f. holds f l.pos && (is_lock (option_and_then (lock_at l.fields l.wr) f.write) l.lock
    || is_lock (option_and_then (lock_at l.fields l.rd) f.read) l.lock) in
    list_any is_governed (drop l.field-index l.fields) ≡ list_any is_governed l.fields
