use Rattle.std.proofs.Common.{◌≡◌, drop}
use Rattle.fusemap_core.specs.Map as map
use Rattle.fusemap_core.proofs.locks.field_named.Given as goal

abbrev pub invariant-loop-field : goal.invariant-loop-field
invariant-loop-field l =
    map.field_named l.name (drop l.field-index l.fields) ≡ map.field_named l.name l.fields
