pub mod Order
pub mod Grouped
pub mod Walk
