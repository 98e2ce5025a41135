-- The definitions that the contracts of this crate cite.
pub mod Names
pub mod Turns
pub mod Moments
pub mod Plans
pub mod Prelude
