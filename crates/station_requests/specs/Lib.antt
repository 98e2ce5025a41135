-- What the contracts of this crate are made of.
pub mod Digest
pub mod Fault
pub mod Map
pub mod Change
pub mod Query
pub mod Device
pub mod Order
pub mod Act
pub mod Plan
pub mod ReadBack
pub mod Identity
pub mod Import
pub mod Requests
pub mod Prelude
