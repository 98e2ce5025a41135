-- The words of this crate, passed on from one place. Declares nothing.
pub use Rattle.id_ranges.specs.Blocks.{blocks_overlap, is_free, is_in, IsApart, IsBlockWithin, IsIn, reserved_start, starts}
pub use Rattle.id_ranges.specs.Calendar.{days_in_month, is_date, is_leap_year}
pub use Rattle.id_ranges.specs.Idevid.{Idevid, new_idevid, no_end}
pub use Rattle.id_ranges.specs.LookUps.{Looked}
pub use Rattle.id_ranges.specs.Mac.{mac_of_bytes, mac_of_text, mac_text}
pub use Rattle.id_ranges.specs.NextSerial.{EndsGiven, is_unused, IsOneFrom, next_serial, next_serial_from, TextSet, with_text}
pub use Rattle.id_ranges.specs.NotBefore.{has_clock, has_date, is_not_before, not_before_of, not_before_in, two_digits}
pub use Rattle.id_ranges.specs.Pool.{is_individual, is_pool, IsPool, Pool, pool_of}
pub use Rattle.id_ranges.specs.Range.{Has, is_number_too_wide, IsRange, numbers, Range, range_of, ranges_overlap, RangesOverlap, serial_text, SharesANumber}
pub use Rattle.id_ranges.specs.RangeFaults.{range_fault_number}
pub use Rattle.id_ranges.specs.SerialLaws.{CursorSkipsIssued, IsLeastUnused, MeetsIsTested, NextIsLeast, NoneIsLeft, NumbersDiffer, TextsAreSerials}
pub use Rattle.id_ranges.specs.SerialLaws.{WidthsDiffer}
pub use Rattle.id_ranges.specs.Found.{found_row, with_serial}
pub use Rattle.id_ranges.specs.Rows.{fields_of_row, header, import_table, is_header, row_limit, row_with_serial, two_fields}
unfoldable pub use Rattle.id_ranges.specs.Rows.{import_rows_of}
