pub mod Beginnings
pub mod Lines
pub mod Reading
pub mod Faithful
pub mod States
pub mod Migrating
mod Examples
