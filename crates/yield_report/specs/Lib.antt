-- What the contracts of this crate are made of.
pub mod Counts
pub mod Lines
pub mod Reports
pub mod Rows
pub mod Texts
pub mod Prelude
