pub mod Parts
pub mod Reading
pub mod Phrases
pub use Rattle.answers.specs.Answer
pub mod OptionalWords
pub mod Gathering
pub mod Listed
