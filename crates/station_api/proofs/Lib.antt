-- The lemmas of this crate.
mod AlwaysAnswers
mod Answering
pub mod KeptRuns
pub mod Living
mod OwnCalls
mod OwnTokens
mod Streaming
mod Types
