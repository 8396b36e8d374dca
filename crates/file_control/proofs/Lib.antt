pub mod Exact
pub mod Examples
