pub mod Counts
pub mod Numbers
pub mod Turns
pub mod Texts
pub mod Fitting
pub mod Parts
pub mod Places
pub mod Forms
pub mod Divisions
pub mod Regions
pub mod Pictures
mod Examples
pub mod WrittenTexts
