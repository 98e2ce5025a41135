-- The lemmas of this crate.
pub mod BodyRead
pub mod Lists
pub mod Reading
