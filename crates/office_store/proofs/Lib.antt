mod Running
mod Creates
mod Changing
mod FoundOffice
mod FoundNothing
mod FoundFiles
mod FoundValidity
mod FoundVersion
mod AddressKept
mod CreateSteps
mod CreateTables
mod Counts
mod ValidityFilled
mod Told
mod Raised
mod Brought
mod Refusals
mod Preparing
mod Telling
mod Opened
pub mod ClosedFiles
mod Spared
mod TurnedAway
mod Drops
mod RemakeTexts
mod RemakeReads
mod RemakeRows
mod RemakePuts
mod Remakes
mod Types
pub mod ReadAnswers
pub mod Committed
pub mod KeysAscending
pub mod MadeAnswers
pub mod MapsStay
pub mod Taken
mod KeepTypes
