-- The lemmas of this crate.
pub mod Numbers
pub mod Pieces
pub mod Bytes
pub mod Blocks
pub mod SetBytes
pub mod KeyFields
pub mod KeyBytes
pub mod WorkBytes
pub mod BytesBack
pub mod WorkBytesBack
pub mod LawProofs
pub mod ZeroBytes
