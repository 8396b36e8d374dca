-- What is read is spelled, and what is spelled is read.
pub mod Optional
pub mod Words
pub mod Clauses
pub mod Stated
pub mod Entries
pub mod FileClauses
pub mod Files
pub mod Division
