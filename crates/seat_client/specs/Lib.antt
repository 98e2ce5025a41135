-- What the contracts of this crate are made of.
pub mod Choices
pub mod Failures
pub mod Known
pub mod Turns
pub mod Wanted
pub mod Words
pub mod Prelude
