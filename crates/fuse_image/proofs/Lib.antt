-- The lemmas of this crate.
pub mod Sets
pub mod BitSets
pub mod Changed
pub mod Masks
pub mod Tables
pub mod Governed
pub mod InFront
pub mod Redacted
pub mod InMap
