pub mod Classes
pub mod Files
pub mod Spelling
pub use Rattle.answers.specs.Answer
