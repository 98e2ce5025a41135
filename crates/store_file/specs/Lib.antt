-- What the contracts of this crate are made of.
pub mod Names
pub mod Page
pub mod Stages
