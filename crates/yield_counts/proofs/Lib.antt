-- The lemmas of this crate.
pub mod Sums
pub mod Kept
pub mod Columned
pub mod Digits
pub mod RisingSerials
pub mod Taken
pub mod Texts
pub mod Walked
pub mod Between
pub mod Following
pub mod Placed
