pub mod Small
pub mod Whole
pub mod OneTree
pub mod Pages
pub mod Names
pub mod Roots
pub mod OneFiles
pub mod Forests
pub mod Order
pub mod Comes
pub mod Keeping
pub mod Listings
pub mod Values
pub mod Empty
pub mod Once
pub mod Faults
pub mod Looks
mod Examples
