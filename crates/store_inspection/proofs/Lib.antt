-- The lemmas of this crate.
pub mod AddressRows
pub mod AddressWalk
pub mod FoundAsked
pub mod FoundLacks
pub mod FoundReads
pub mod FoundResults
pub mod FoundRows
pub mod MetaShows
pub mod Schemas
pub mod ValidityKeys
pub mod TextShows
mod Types
