-- The lemmas of this crate.
pub mod Safe
pub mod Copies
