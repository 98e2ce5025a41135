-- What the contracts of this crate are made of.
pub mod States
pub mod Sendings
pub mod Replies
pub mod Lines
pub mod Ends
pub mod Prelude
