-- The definitions that the contracts of this crate cite.
pub mod Served
pub mod Runs
pub mod Concludes
pub mod Prelude
