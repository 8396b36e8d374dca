pub mod Several
pub mod Plain
pub mod Descriptions
pub mod Rows
mod Parts
pub mod Checked
mod Examples
pub mod Short
