-- What the contracts of this crate are made of.
pub mod HttpAnswers
pub mod SectionExchanges
pub mod Books
pub mod SiteRuns
pub mod Lives
pub mod Prelude
