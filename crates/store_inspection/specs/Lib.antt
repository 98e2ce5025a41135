-- What the contracts of this crate are made of.
pub mod Found
pub mod Addresses
pub mod Versions
pub mod SiteTexts
pub mod Meta
pub mod Described
pub mod Prelude
