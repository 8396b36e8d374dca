pub mod Root
pub mod Pair
pub mod Reading
pub mod Laws
