-- The lemmas of this crate.
pub mod Again
pub mod Lost
pub mod Telling
