pub mod Gathered
pub mod Roots
pub mod Unknown
pub mod Volume
