pub mod Stored
pub mod Description
pub mod Rows
pub mod Read
