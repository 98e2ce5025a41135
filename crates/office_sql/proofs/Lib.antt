pub mod Lists
pub mod Scan
pub mod Joined
pub mod Asked
pub mod Bare
pub mod Stepping
mod Inside
pub mod Keyed
pub mod TableRows
pub mod Kept
pub mod Reading
pub mod Visiting
pub mod Values
pub mod TableOf
pub mod Names
pub mod Offices
mod Making
pub mod Resting
pub mod Inserting
pub mod Replacing
pub mod ValidityRows
pub mod RowsWithValidity
pub mod Filled
pub mod Filling
pub mod Lacking
mod Finding
pub mod LedgerAsked
pub mod MapChanges
pub mod MapValues
mod MapIds
mod Looking
pub mod ColumnKinds
pub mod Missing
mod Putting
mod SeatTexts
mod MapTexts
mod LinkTexts
pub mod OrderTexts
mod DeviceTexts
pub mod GivenTexts
mod EntryTexts
pub mod Kit
mod Types
