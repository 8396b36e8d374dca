pub mod Tests
pub mod Relations
pub mod Conditions
pub mod Evaluate
pub mod Nests
pub mod Laws
pub use Rattle.grammar.specs.Reading as GrammarReading
