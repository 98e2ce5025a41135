-- The lemmas of this crate.
pub mod Acting
mod Actions
mod Additions
mod Addresses
mod Anew
mod Appended
pub mod CursorLaws
mod DeviceLaws
mod DevicePages
mod DeviceRows
pub mod End
mod Existing
mod Filling
pub mod Fresh
pub mod GivenLaws
pub mod Giving
pub mod Growing
pub mod Grown
mod Identity
mod IdentityKept
mod ImportKept
pub mod Issuing
mod Keeping
mod Kept
mod Lasting
pub mod Leaving
mod Looking
pub mod Lowest
mod Machine
mod MapKept
mod MapLaws
mod MapRows
pub mod Matching
pub mod Moments
mod NamedMaps
pub mod Obeying
mod OrderKept
pub mod OwnPlaces
pub mod OwnReports
pub mod OwnRetries
pub mod Passing
pub mod Placed
pub mod Plan
pub mod Promising
pub mod ReadBack
pub mod Readings
pub mod RecordAddresses
mod RecordRows
pub mod Registration
mod RegistrationKept
mod Responses
pub mod RunLaws
pub mod RunsAlone
pub mod Seats
mod Seen
pub mod Served
mod Shown
mod SoundRows
pub mod Sounding
mod StepKept
mod StepLasts
pub mod Steps
pub mod Stopping
mod Terms
mod TextKeys
mod Tidy
mod Unread
pub mod Within
mod Types
