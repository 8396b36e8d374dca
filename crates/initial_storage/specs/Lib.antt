pub mod Conditions
pub mod Fits
pub mod Formed
pub mod Occurrences
pub mod Patterns
pub mod Reach
