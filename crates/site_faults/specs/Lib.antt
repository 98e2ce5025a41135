-- What the contracts of this crate are made of.
pub mod Words
pub mod Breaches
pub mod Prelude
