pub mod Environment
pub mod Spelling
pub mod Reading
pub mod Faults
pub use Rattle.answers.specs.Answer
pub use Rattle.data_division.specs.Forms
pub use Rattle.statements.specs.Spelling as StatementSpelling
