-- What the contracts of this crate are made of.
pub mod Machines
pub mod Memory
pub mod Chip
pub mod ShortBytes
pub mod Digest
pub mod InFront
pub mod InPlace
pub mod Name
pub mod Options
pub mod Padding
pub mod Prefix
pub mod Readers
pub mod Serial
pub mod ShortText
pub mod Time
pub mod Prelude
