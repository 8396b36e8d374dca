pub mod Spelling
pub mod Reading
pub mod Known
pub mod Demands
pub mod Paragraphs
pub mod Points
pub mod Table
pub use Rattle.answers.specs.Answer
