-- The lemmas of this crate.
pub mod Faults
pub mod Written
pub mod Asides
pub mod Again
pub mod Logged
