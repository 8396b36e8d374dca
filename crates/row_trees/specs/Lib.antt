pub mod RowTree
pub mod Rows
pub mod Reading
pub mod Calls
