pub mod Traced
pub mod Unknown
