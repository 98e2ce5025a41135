-- What the contracts of this crate are made of.
pub mod Blocks
pub mod Calendar
pub mod Idevid
pub mod LookUps
pub mod Mac
pub mod NextSerial
pub mod NotBefore
pub mod Pool
pub mod Range
pub mod RangeFaults
pub mod SerialLaws
pub mod Found
pub mod Rows
pub mod Prelude
