-- The faults of ranges.
use Rattle.std.specs.Prelude.{ℕ}
use Rattle.id_ranges.specs.declared.fault.RangeFault.{RangeFault}
use Rattle.id_ranges.specs.declared.fault.RangeFault.TheVariants.{BadText, TooWide, Exhausted, NoMacRoom, Overlap, KeyBound, OutOfMemory, Unread, BadNotBefore}

-- the number of a fault
abbrev pub range_fault_number : RangeFault → ℕ
range_fault_number BadText = 1
range_fault_number TooWide = 2
range_fault_number Exhausted = 3
range_fault_number NoMacRoom = 4
range_fault_number Overlap = 5
range_fault_number KeyBound = 6
range_fault_number OutOfMemory = 7
range_fault_number Unread = 8
range_fault_number BadNotBefore = 9
