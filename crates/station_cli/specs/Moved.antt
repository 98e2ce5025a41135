-- What the two ends of a connection did in one call.
use Rattle.std.specs.Prelude.{ℕ, Option, Some, None}
use Rattle.http_frames.specs.declared.transfer.Transfer.{Transfer}
use Rattle.http_frames.specs.declared.transfer.Transfer.TheVariants.{Moved, Failed}

-- a call that moved so many bytes, or that failed where it has no number
abbrev pub moved_or_failed : Option ℕ → Transfer
moved_or_failed (Some count) = Moved count
moved_or_failed None = Failed
