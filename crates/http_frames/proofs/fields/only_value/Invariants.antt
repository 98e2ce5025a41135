use Rattle.std.proofs.Common.{take}
use Rattle.http_frames.specs.Prelude.{IsOccurrence, values_named, headers_at}
use Rattle.http_frames.proofs.fields.only_value.Given as goal

abbrev pub invariant-loop-span : goal.invariant-loop-span
invariant-loop-span l = IsOccurrence (values_named l.name (headers_at l.buf (take l.span-index l.spans))) l.found
