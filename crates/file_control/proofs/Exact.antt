-- What is read is spelled, and what is spelled is read.
pub mod Words
pub mod Clauses
pub mod Selects
