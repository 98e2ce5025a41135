-- What the contracts of this crate are made of.
pub mod Crashing
pub mod Restarting
