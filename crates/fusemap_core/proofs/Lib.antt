-- The lemmas of this crate.
pub mod Bounds
pub mod Judged
pub mod Nothing
pub mod Pairs
pub mod Ranges
pub mod Reading
pub mod Rules
pub mod Brought
pub mod NumberedMaps
pub mod Places
