pub mod Clauses
pub mod ClauseReading
pub mod Stated
pub mod Selects
pub use Rattle.grammar.specs.Reading as GrammarReading
