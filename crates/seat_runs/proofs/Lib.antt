-- The lemmas of this crate.
pub mod Retries
pub mod Answering
pub mod Asking
pub mod Following
pub mod Coming
pub mod Devices
pub mod Making
pub mod Recording
pub mod Staying
pub mod Telling
pub mod Reading
pub mod Images
pub mod Expecting
pub mod Moving
pub mod Logging
