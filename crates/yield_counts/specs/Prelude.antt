-- The words of this crate, passed on from one place. Declares nothing.
pub use Rattle.yield_counts.specs.Counts.{AreCountsOf, columns, count_in, count_unused, devices_of, HasIssued, has_issued_in, serials_left, state_names}
pub use Rattle.yield_counts.specs.Counting.{AreColumnsOf, AreCounted, columns_at, columns_known, count_at, count_of, in_column, no_devices}
pub use Rattle.yield_counts.specs.Counting.{taken_in_column, with_one}
pub use Rattle.yield_counts.specs.Left.{AgreeOff, AreLeft, AreLeftOf, IsGivenToo, IsLeft, less_one}
pub use Rattle.yield_counts.specs.Serials.{AreRising, follows, has_serial, serials_in, serials_of}
