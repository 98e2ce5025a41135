-- What the contracts of this crate are made of.
pub mod Json
pub mod Toml
pub mod Prelude
