-- The lemmas of this crate.
pub mod Floats
pub mod Numbers
