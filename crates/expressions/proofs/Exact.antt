-- What is read is spelled, and what is spelled is read.
pub mod Marks
pub mod Subscripts
pub mod References
pub mod Literals
pub mod Operands
pub mod Expressions
pub mod Laws
pub mod Balance
pub mod Leads
