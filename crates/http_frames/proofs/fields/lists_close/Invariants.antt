use Rattle.std.proofs.Common.{◌≡◌, length}
use Rattle.http_frames.specs.Prelude.{has_close}
use Rattle.http_frames.proofs.fields.lists_close.Given as goal

abbrev pub invariant-loop-piece : goal.invariant-loop-piece
invariant-loop-piece l = has_close l.rest ≡ has_close l.value

abbrev pub decreases-loop-piece : goal.decreases-loop-piece
decreases-loop-piece l = length l.rest
