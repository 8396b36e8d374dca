pub mod Lists
pub mod States
pub mod Steps
pub mod Groups
pub mod Going
pub mod Ends
pub mod Descent
mod Examples
pub mod Beginnings
