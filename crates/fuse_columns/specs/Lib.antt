-- What the contracts of this crate are made of.
pub mod Words
pub mod BitsColumns
pub mod KeysColumns
pub mod Images
pub mod TodoColumns
pub mod Laws
pub mod Zeros
pub mod Prelude
