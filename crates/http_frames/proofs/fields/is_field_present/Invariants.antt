use Rattle.std.proofs.Common.{◌≡◌, take, false}
use Rattle.http_frames.specs.Prelude.{has_field, headers_at}
use Rattle.http_frames.proofs.fields.is_field_present.Given as goal

abbrev pub invariant-loop-field : goal.invariant-loop-field
invariant-loop-field l = has_field l.name (headers_at l.buf (take l.field-index l.spans)) ≡ false
