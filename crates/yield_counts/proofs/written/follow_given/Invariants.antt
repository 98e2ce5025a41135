use Rattle.std.proofs.Common.{take}
use Rattle.office_tables.specs.Prelude.{CanWrite, Tables, Written}
use Rattle.yield_counts.specs.Counts.{has_issued_in}
use Rattle.yield_counts.specs.Left.{AreLeft}
use Rattle.yield_counts.proofs.written.follow_given.Given as goal

-- what the writes so far gave is counted
abbrev pub invariant-loop-write : goal.invariant-loop-write
invariant-loop-write l = (t mid : Tables) → CanWrite l.fn.writes t → Written (take l.write-index l.fn.writes) t mid
    → AreLeft (has_issued_in t) l.fn.counts → AreLeft (has_issued_in mid) l.counts
