pub mod Chain
pub mod Links
pub mod Changes
pub mod Calls
pub mod Rows
pub mod Laws
pub mod Refusals
pub mod Buffers
