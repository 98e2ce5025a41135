-- What the contracts of this crate are made of.
pub mod Map
pub mod MapFaults
pub mod MapText
pub mod Numbers
pub mod Recent
pub mod Prelude
