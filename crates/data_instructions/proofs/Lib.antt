pub mod Same
pub mod Known
pub mod Lengths
pub mod Calculations
pub mod Safety
pub mod TextSafety
pub mod InspectSafety
pub mod PartSafety
pub mod EachSafety
pub mod Entries
pub mod Integers
pub mod Subscripts
pub mod PartForms
pub mod PartCodes
pub mod Codes
pub mod Chains
pub mod PartEntries
pub mod Expressions
pub mod ArithmeticCodes
pub mod ArithmeticChains
pub mod Conditions
pub mod ConditionChains
pub mod TextCodes
pub mod TextChains
pub mod InspectCodes
pub mod InspectChains
mod Examples
mod ConditionExamples
mod TextExamples
mod PartExamples
