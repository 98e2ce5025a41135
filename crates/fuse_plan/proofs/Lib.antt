-- The lemmas of this crate.
pub mod Compared
pub mod Law
pub mod Asked
pub mod Past
pub mod Windows
pub mod Digits
pub mod Shown
pub mod Pending
pub mod InMap
mod Types
