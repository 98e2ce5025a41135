-- The lemmas of this crate.
pub mod Gathered
pub mod Placed
pub mod SiteLines
pub mod WholeLines
