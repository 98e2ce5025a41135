-- What the contracts of this crate are made of.
pub mod NewOrders
pub mod Asked
pub mod Refusals
pub mod Replies
pub mod DeviceReplies
pub mod StepReplies
pub mod Wholes
pub mod IdentityReplies
pub mod Prelude
