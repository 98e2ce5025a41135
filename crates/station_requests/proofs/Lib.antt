-- The lemmas of this crate.
pub mod AskedFor
mod Identities
pub mod Members
mod Reading
mod Routes
pub mod Wishes
mod Types
