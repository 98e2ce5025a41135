-- The lemmas of this crate.
pub mod Broken
pub mod Callers
pub mod Growing
pub mod Judged
pub mod Kept
pub mod Preorder
pub mod Owners
pub mod Pairs
pub mod Reading
