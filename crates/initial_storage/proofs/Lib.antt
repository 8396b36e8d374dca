pub mod Areas
pub mod Counted
pub mod Conditions
pub mod Elementary
mod Examples
pub mod Formed
pub mod Groups
pub mod Inner
pub mod Kept
pub mod KeptFiles
pub mod Lengths
pub mod Pictures
pub mod Places
pub mod Records
pub mod Repeats
pub mod Sizes
pub mod Values
