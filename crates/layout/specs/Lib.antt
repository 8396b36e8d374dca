pub mod Fits
pub mod Placing
