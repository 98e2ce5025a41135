-- The lemmas of this crate.
pub mod InFront
pub mod Lists
pub mod MachineLemmas
pub mod Options
pub mod Padding
pub mod Results
pub mod Shorts
pub mod Tests
pub mod Texts
pub mod Kit
