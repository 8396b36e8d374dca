pub mod Words
pub mod Clauses
pub mod ClauseReading
pub mod Stated
pub mod Entries
pub mod EntryReading
pub mod FileClauses
pub mod Files
pub mod Division
pub mod Forms
pub use Rattle.grammar.specs.Reading as GrammarReading
