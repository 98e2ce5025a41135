-- What the contracts of this crate are made of.
pub mod Blocks
pub mod BlocksAgain
pub mod Places
pub mod Words
pub mod WordsAgain
pub mod Masks
pub mod Keys
pub mod Locks
pub mod Image
pub mod Redaction
pub mod InMap
pub mod Pending
pub mod Prelude
