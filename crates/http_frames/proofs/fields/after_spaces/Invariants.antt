use Rattle.std.proofs.Common.{◌≡◌, length}
use Rattle.http_frames.specs.Prelude.{skip_spaces}
use Rattle.http_frames.proofs.fields.after_spaces.Given as goal

abbrev pub invariant-loop-s : goal.invariant-loop-s
invariant-loop-s l = skip_spaces l.s ≡ skip_spaces l.fn.s

abbrev pub decreases-loop-s : goal.decreases-loop-s
decreases-loop-s l = length l.s
