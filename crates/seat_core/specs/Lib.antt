-- The definitions that the contracts of this crate cite.
pub mod Aside
pub mod Steps
pub mod Starts
pub mod Replies
pub mod Refusals
pub mod Events
pub mod Safety
pub mod Copies
pub mod Prelude
