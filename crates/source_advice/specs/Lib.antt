pub mod Advice
pub mod Lines
