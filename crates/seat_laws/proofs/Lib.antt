-- The lemmas of this crate.
pub mod Among
pub mod Standing
pub mod Told
pub mod Serving
pub mod Acting
pub mod Events
pub mod Refused
pub mod Running
pub mod Counts
pub mod Counting
pub mod Lines
pub mod Refusals
