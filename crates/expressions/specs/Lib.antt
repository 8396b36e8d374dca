pub mod Marks
pub mod Subscripts
pub mod References
pub mod Literals
pub mod Operands
pub mod Expressions
pub mod Nests
pub mod Looking
pub mod Laws
pub use Rattle.grammar.specs.Reading as GrammarReading
