-- What the contracts of this crate are made of.
pub mod Counts
pub mod Counting
pub mod Serials
pub mod Left
pub mod Walks
pub mod Kept
pub mod Changes
pub mod Prelude
