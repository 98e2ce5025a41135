-- The lemmas of this crate.
pub mod Books
pub mod FileTexts
pub mod Fronts
pub mod Leading
pub mod LeftFiles
pub mod NumberTexts
pub mod Options
pub mod Outcomes
