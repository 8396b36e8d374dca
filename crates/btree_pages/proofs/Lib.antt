pub mod Around
pub mod Beginnings
pub mod Changed
pub mod Edited
mod Examples
pub mod Halving
pub mod Numbers
pub mod Order
pub mod PageWrites
pub mod Places
pub mod Rows
pub mod Views
pub mod Words
pub mod Zeros
