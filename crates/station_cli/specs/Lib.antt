-- What the contracts of this crate are made of.
pub mod Accepting
pub mod CommandLine
pub mod Moved
pub mod FileText
pub mod Listening
pub mod MapFile
pub mod Outcomes
pub mod Patience
pub mod Replaying
pub mod SiteCheck
pub mod SiteFile
pub mod Statuses
pub mod Storing
pub mod Prelude
