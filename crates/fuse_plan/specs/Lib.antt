-- What the contracts of this crate are made of.
pub mod Numbers
pub mod Wishes
pub mod Plans
pub mod Outcome
pub mod Law
pub mod Pending
pub mod Prelude
