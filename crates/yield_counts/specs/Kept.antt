-- When all that is counted is right.
use Rattle.std.specs.Prelude.{Option}
use Rattle.office_tables.specs.Prelude.{Tables}
use Rattle.yield_counts.specs.Counts.{has_issued_in}
use Rattle.yield_counts.specs.Counting.{AreCounted}
use Rattle.yield_counts.specs.Left.{AreLeft}
use Rattle.yield_counts.specs.Changes.{IsAnswerOf}
use Rattle.yield_counts.specs.declared.written.DeviceAnswer.{DeviceAnswer}
use Rattle.yield_counts.specs.declared.devices.DeviceCounts.{DeviceCounts}
use Rattle.yield_counts.specs.declared.left.LeftCounts.{LeftCounts}

-- what is counted is what the tables have, and so is the answer that was given last of a device
pub record AreKept (t : Tables) (counted : DeviceCounts) (given : LeftCounts) (answer : Option DeviceAnswer) : Type 0 where
  pub devices : AreCounted t.devices counted
  pub left : AreLeft (has_issued_in t) given
  pub device : IsAnswerOf answer t.devices
