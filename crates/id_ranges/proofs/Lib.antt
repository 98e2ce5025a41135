-- The lemmas of this crate.
pub mod FreeBlocks
pub mod MacTexts
pub mod Meeting
pub mod NextNumbers
pub mod Pools
pub mod Ranges
pub mod ReservedStart
pub mod Texts
pub mod Times
pub mod FirstRecords
pub mod Tables
