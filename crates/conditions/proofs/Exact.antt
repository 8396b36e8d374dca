-- What is read is spelled, and what is spelled is read.
pub mod Tests
pub mod Relations
pub mod Sides
pub mod Levels
pub mod Plain
pub mod Conditions
pub mod Depths
pub mod Evaluate
pub mod Named
