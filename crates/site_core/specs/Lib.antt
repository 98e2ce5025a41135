-- What the contracts of this crate are made of.
pub mod Caller
pub mod Growth
pub mod Ownership
pub mod Section
pub mod Site
pub mod SiteFaults
pub mod SiteText
pub mod Prelude
